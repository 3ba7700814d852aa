-- Which wires stand on one metal, whichever of the four it is, and what is said of two wires of the channels there.
use Rattle.std.proofs.Common.{◌≡◌, ◌⊎◌, inl, inr, ◌∙◌, ℕ, ◌<◌, ℤ, pos, ◌+ℤ◌, ◌*ℤ◌, sym, ap, subst, arith}
use Rattle.std.specs.Prelude.{slice_index, slice_get, Some}
use Rattle.std.proofs.lemmas.Bool.{cases_lt, cases_eq}
use Rattle.or_geom.specs.declared.shape.Shape.{Shape}
use Rattle.tech_rules.specs.declared.tech.Wire.{Wire}
use Rattle.wire_drawing.specs.Drawing.{IsBox}
use Rattle.channel_router.specs.declared.channel.Channel.{Channel}
use Rattle.channel_router.specs.declared.channel.Interval.{Interval}
use Rattle.channel_router.specs.Channel.{IsPinOf}
use Rattle.channel_router.specs.Wires.{IsOfNet, IsWireOf, IsTrunk, channel_height, track_y}
use Rattle.channel_router.specs.Apart.{AreSevenLayers}
use Rattle.sram_netlist.specs.Organization.{Organization, banks_of}
use Rattle.sram_netlist.specs.Nets.{Net, Vdd, Gnd}
use Rattle.macro_layout.specs.LayoutKit.{LayoutKit}
use Rattle.macro_layout.specs.Places.{Floorplan}
use Rattle.macro_layout.specs.Floorplan.{Tracks}
use Rattle.macro_layout.specs.Pins.{main_nets, column_nets}
use Rattle.macro_layout.specs.Channels.{IsColumnChannel, IsMainChannel}
use Rattle.macro_layout.specs.Wires.{IsBar, IsSupplyTrunk, IsPowerBarAt, IsGroundBarAt, IsWriteJoiner, IsCornerJoiner, trunk_x, ground_x}
use Rattle.macro_layout.specs.Stated.{IsShifted}
use Rattle.good_wires.specs.Spaced.{AreApart}
use Rattle.good_wires.specs.Drawn.{IsDrawnMemory}
use Rattle.good_wires.proofs.LayerLaws.{metals_differ, cut_no_metal}
use Rattle.joined_nets.specs.WireNets.{in_bank, IsChannelWireOf, IsTapWireOf, IsRailWireOf, IsOutputWireOf, IsBankWireOf, IsWireInBanksOf, IsWireOfNet}
use Rattle.wire_nets.specs.Named.{HasNamedNets}
use Rattle.wire_nets.proofs.ToldLaws.{told_back, told_moves, one_name}
use Rattle.wire_nets.proofs.ChannelToldLaws.{channel_told}

-- The wires on metal j

module _ (plan : Organization) (kit : LayoutKit) (wire : Wire) (tracks : Tracks) (f : Floorplan) (j : ℕ) where
  abbrev metal : ℕ → ℕ
  metal k = slice_index wire.metals k

  -- a layer is one metal
  one_metal : (k n : ℕ) → AreSevenLayers wire → j < 4 → k < 4 → n ≡ metal k → n ≡ metal j → j ≡ k
  one_metal k n seven four lt e z = elim (cases_eq j k) [
    | inl same ↦ same
    | inr differ ↦ absurd (metals_differ wire j k seven four lt differ (sym z ∙ e))
  ]

  no_cut : (k n : ℕ) → AreSevenLayers wire → j < 4 → k < 3 → n ≡ slice_index wire.cuts k → n ≡ metal j → ⊥
  no_cut k n seven four lt e z = cut_no_metal wire k j seven lt four (sym e ∙ z)

  -- of a channel: trunks on the third metal, branches of the upper side on the fourth, of the lower side on the second
  abbrev pub IsChannelBox : Channel → ℕ → ℕ → Interval → ℕ → Shape → Type 0
  IsChannelBox ch count net interval t s =
      let y = track_y ch.low wire t in
      ((j ≡ 2) × IsTrunk ch.low wire interval t s)
      ⊎ (((j ≡ 3) × (x : ℤ) × IsPinOf ch.top net x × IsBox (metal 3) x y (x +ℤ wire.width) (ch.low +ℤ channel_height wire count) s)
      ⊎ ((j ≡ 1) × (x : ℤ) × IsPinOf ch.bottom net x × IsBox (metal 1) x ch.low (x +ℤ wire.width) (y +ℤ wire.width) s))

  pub channel_box : AreSevenLayers wire → j < 4 → (ch : Channel) (count net : ℕ) (interval : Interval) (t : ℕ) (s : Shape) → s.layer ≡ metal j → IsWireOf ch wire count net interval t s → IsChannelBox ch count net interval t s
  channel_box seven four ch count net interval t s on (inl trunk) = inl (one_metal 2 s.layer seven four (omega arith) trunk.on on, trunk)
  channel_box seven four ch count net interval t s on (inr (inl (x, p, inl box))) = inr (inl (one_metal 3 s.layer seven four (omega arith) box.on on, x, p, box))
  channel_box seven four ch count net interval t s on (inr (inl (x, p, inr via))) = absurd (no_cut 2 s.layer seven four (omega arith) via.on on)
  channel_box seven four ch count net interval t s on (inr (inr (x, p, inl box))) = inr (inr (one_metal 1 s.layer seven four (omega arith) box.on on, x, p, box))
  channel_box seven four ch count net interval t s on (inr (inr (x, p, inr via))) = absurd (no_cut 1 s.layer seven four (omega arith) via.on on)

  -- of a bank beside its channel: taps on the third metal, rails and outputs on the fourth, joiners on the first
  abbrev pub IsBankBox : Net → Shape → Type 0
  IsBankBox n s =
      ((j ≡ 2) × (tap : IsTapWireOf plan kit wire tracks.column f n s) × IsBox (metal 2) tap.x tap.y tap.end (tap.y +ℤ wire.width) s)
      ⊎ (((j ≡ 3) × (IsRailWireOf plan kit wire tracks.column f n s ⊎ IsOutputWireOf plan kit wire f n s))
      ⊎ ((j ≡ 0) × (n ≡ Gnd) × (IsWriteJoiner plan kit wire f s ⊎ IsCornerJoiner plan kit wire f s)))

  abbrev pub IsMainWireOf : Net → Shape → Type 0
  IsMainWireOf = IsChannelWireOf (IsMainChannel plan kit wire f) wire tracks.main (main_nets plan)

  abbrev pub IsColumnWireOf : Net → Shape → Type 0
  IsColumnWireOf = IsChannelWireOf (IsColumnChannel plan kit wire f) wire tracks.column (column_nets plan)

  bank_box : AreSevenLayers wire → j < 4 → (n : Net) (s : Shape) → s.layer ≡ metal j → IsBankWireOf plan kit wire tracks f n s → IsColumnWireOf n s ⊎ IsBankBox n s
  bank_box seven four n s on (inl channel) = inl channel
  bank_box seven four n s on (inr (inl tap)) = elim tap.drawn [
    | inl box ↦ inr (inl (one_metal 2 s.layer seven four (omega arith) box.on on, tap, box))
    | inr via ↦ absurd (no_cut 2 s.layer seven four (omega arith) via.on on)
  ]
  bank_box seven four n s on (inr (inr (inl rail))) = inr (inr (inl (one_metal 3 s.layer seven four (omega arith) rail.drawn.on on, inl rail)))
  bank_box seven four n s on (inr (inr (inr (inl out)))) = inr (inr (inl (one_metal 3 s.layer seven four (omega arith) out.drawn.on on, inr out)))
  bank_box seven four n s on (inr (inr (inr (inr (ground, inl joiner))))) = inr (inr (inr (one_metal 0 s.layer seven four (omega arith) joiner.1.on on, ground, inl joiner)))
  bank_box seven four n s on (inr (inr (inr (inr (ground, inr joiner))))) = inr (inr (inr (one_metal 0 s.layer seven four (omega arith) joiner.on on, ground, inr joiner)))

  -- of the supplies: trunks on the second metal, bars on the first
  abbrev IsSupplyBox : (ℤ → ℤ → Type 0) → ℤ → Shape → Type 0
  IsSupplyBox At trunk s = ((j ≡ 1) × IsSupplyTrunk kit wire f trunk s) ⊎ ((j ≡ 0) × (x : ℤ) × (y : ℤ) × At x y × IsBox (metal 0) x y (trunk +ℤ wire.width) (y +ℤ wire.width) s)

  supply_box : AreSevenLayers wire → j < 4 → (At : ℤ → ℤ → Type 0) (trunk : ℤ) (s : Shape) → s.layer ≡ metal j → IsSupplyTrunk kit wire f trunk s ⊎ ((x : ℤ) × (y : ℤ) × At x y × IsBar wire trunk x y s) → IsSupplyBox At trunk s
  supply_box seven four At trunk s on (inl box) = inl (one_metal 1 s.layer seven four (omega arith) box.on on, box)
  supply_box seven four At trunk s on (inr (x, y, at, inl box)) = inr (one_metal 0 s.layer seven four (omega arith) box.on on, x, y, at, box)
  supply_box seven four At trunk s on (inr (x, y, at, inr via)) = absurd (no_cut 0 s.layer seven four (omega arith) via.on on)

  -- a wire of a bank, by which wire of its bank it is
  pub record IsBankWire (Is : Net → Shape → Type 0) (n : Net) (s : Shape) : Type 0 where
    pub bank : ℕ
    pub below : bank < banks_of plan
    pub net : Net
    pub named : n ≡ in_bank bank net
    pub inner : Shape
    pub layer : inner.layer ≡ metal j
    pub is : Is net inner
    pub shifted : IsShifted (pos bank *ℤ f.bank_width) (pos 0) inner s

  bank_wire : AreSevenLayers wire → j < 4 → (n : Net) (s : Shape) → s.layer ≡ metal j → IsWireInBanksOf plan kit wire tracks f n s → IsBankWire IsColumnWireOf n s ⊎ IsBankWire IsBankBox n s
  bank_wire seven four n s on w = elim (bank_box seven four w.net w.inner layer w.is) [
    | inl channel ↦ inl (record { bank = w.bank; below = w.below; net = w.net; named = w.named; inner = w.inner; layer = layer; is = channel; shifted = w.shifted })
    | inr box ↦ inr (record { bank = w.bank; below = w.below; net = w.net; named = w.named; inner = w.inner; layer = layer; is = box; shifted = w.shifted })
  ] where
    layer : w.inner.layer ≡ metal j
    layer = sym w.shifted.layer ∙ on

  abbrev pub IsOfSupply : Net → Shape → Type 0
  IsOfSupply n s = ((n ≡ Vdd) × IsSupplyBox (IsPowerBarAt plan kit wire f) (trunk_x plan kit wire f) s) ⊎ ((n ≡ Gnd) × IsSupplyBox (IsGroundBarAt plan kit f) (ground_x plan kit wire f) s)

  abbrev pub IsOnMetal : Net → Shape → Type 0
  IsOnMetal n s = IsMainWireOf n s ⊎ (IsBankWire IsColumnWireOf n s ⊎ (IsOfSupply n s ⊎ IsBankWire IsBankBox n s))

  pub on_metal : AreSevenLayers wire → j < 4 → (n : Net) (s : Shape) → s.layer ≡ metal j → IsWireOfNet plan kit wire tracks f n s → IsOnMetal n s
  on_metal seven four n s on (inl (inl channel)) = inl channel
  on_metal seven four n s on (inl (inr (inl (is, power)))) = inr (inr (inl (inl (is, supply_box seven four _ (trunk_x plan kit wire f) s on power))))
  on_metal seven four n s on (inl (inr (inr (is, ground)))) = inr (inr (inl (inr (is, supply_box seven four _ (ground_x plan kit wire f) s on ground))))
  on_metal seven four n s on (inr banks) = elim (bank_wire seven four n s on banks) [
    | inl channel ↦ inr (inl channel)
    | inr box ↦ inr (inr (inr box))
  ]

-- Two wires of one channel on metal j

module _ (plan : Organization) (kit : LayoutKit) (wire : Wire) (tracks : Tracks) (f : Floorplan) (m : IsDrawnMemory plan kit wire tracks f) (j : ℕ) where
  abbrev offset : ℕ → ℤ
  offset b = pos b *ℤ f.bank_width

  abbrev pub Told : Net → Net → Shape → Shape → Type 0
  Told n k s u = (n ≡ k) ⊎ AreApart wire.space s.rect u.rect

  -- a wire of the main channel
  pub record IsMainWire (n : Net) (s : Shape) : Type 0 where
    pub net : ℕ
    pub named : slice_get (main_nets plan) net ≡ Some n
    pub of : IsOfNet m.main.channel wire m.main.intervals m.main.track tracks.main net s
    pub layer : s.layer ≡ slice_index wire.metals j

  -- a wire of a bank's column channel
  pub record IsColumnWire (n : Net) (s : Shape) : Type 0 where
    pub bank : ℕ
    pub below : bank < banks_of plan
    pub name : Net
    pub is : n ≡ in_bank bank name
    pub inner : Shape
    pub net : ℕ
    pub named : slice_get (column_nets plan) net ≡ Some name
    pub of : IsOfNet m.column.channel wire m.column.intervals m.column.track tracks.column net inner
    pub layer : inner.layer ≡ slice_index wire.metals j
    pub shifted : IsShifted (offset bank) (pos 0) inner s

  -- by the numbers of their nets
  abbrev pub IsNamedOnMetal : Net → Shape → Type 0
  IsNamedOnMetal n s = IsMainWire n s ⊎ (IsColumnWire n s ⊎ (IsOfSupply plan kit wire tracks f j n s ⊎ IsBankWire plan kit wire tracks f j (IsBankBox plan kit wire tracks f j) n s))

  pub named_on_metal : HasNamedNets plan kit wire tracks f m → j < 4 → (n : Net) (s : Shape) → s.layer ≡ slice_index wire.metals j → IsWireOfNet plan kit wire tracks f n s → IsNamedOnMetal n s
  named_on_metal names four n s on is = by (on_metal plan kit wire tracks f j m.seven four n s on is) where
    by : IsOnMetal plan kit wire tracks f j n s → IsNamedOnMetal n s
    by (inl w) = let k = names.main n s w in inl (record { net = k.number; named = k.named; of = k.of; layer = on })
    by (inr (inl w)) = let k = names.column w.net w.inner w.is in inr (inl (record { bank = w.bank; below = w.below; name = w.net; is = w.named; inner = w.inner; net = k.number; named = k.named; of = k.of; layer = w.layer; shifted = w.shifted }))
    by (inr (inr rest)) = inr (inr rest)

  abbrev pub IsMainBox : (n : Net) (s : Shape) → IsMainWire n s → Type 0
  IsMainBox n s w = IsChannelBox plan kit wire tracks f j m.main.channel tracks.main w.net w.of.interval w.of.t s

  pub main_box : j < 4 → (n : Net) (s : Shape) (w : IsMainWire n s) → IsMainBox n s w
  main_box four n s w = channel_box plan kit wire tracks f j m.seven four m.main.channel tracks.main w.net w.of.interval w.of.t s w.layer w.of.wires

  abbrev pub IsColumnBox : (n : Net) (s : Shape) → IsColumnWire n s → Type 0
  IsColumnBox n s w = IsChannelBox plan kit wire tracks f j m.column.channel tracks.column w.net w.of.interval w.of.t w.inner

  pub column_box : j < 4 → (n : Net) (s : Shape) (w : IsColumnWire n s) → IsColumnBox n s w
  column_box four n s w = channel_box plan kit wire tracks f j m.seven four m.column.channel tracks.column w.net w.of.interval w.of.t w.inner w.layer w.of.wires

  pub mains_told : (n k : Net) (s u : Shape) → IsMainWire n s → IsMainWire k u → Told n k s u
  mains_told n k s u a c = elim (channel_told m.main.channel wire m.main.intervals m.main.track tracks.main m.laid.sizes m.seven m.main.assigned m.main.top m.main.bottom a.net c.net s u a.of c.of (a.layer ∙ sym c.layer)) [
    | inl same ↦ inl (one_name (main_nets plan) a.net c.net n k same a.named c.named)
    | inr apart ↦ inr apart
  ]

  -- in one bank, or in two whose wires are apart
  pub columns_told : (n k : Net) (s u : Shape) (a : IsColumnWire n s) (c : IsColumnWire k u) → (a.bank < c.bank → Told n k s u) → (c.bank < a.bank → Told k n u s) → Told n k s u
  columns_told n k s u a c before after = elim (cases_lt a.bank c.bank) [
    | inl lt ↦ before lt
    | inr ge ↦ elim (cases_lt c.bank a.bank) [
      | inl lt ↦ told_back wire.space u.rect s.rect sym (after lt)
      | inr le ↦
          let e : c.bank ≡ a.bank = omega (arith, ge, le) in
          told_moves wire.space (offset a.bank) a.inner c.inner s u a.shifted (subst (λ (b : ℕ). IsShifted (offset b) (pos 0) c.inner u) e c.shifted)
          (λ (same : a.net ≡ c.net). a.is ∙ ap (in_bank a.bank) (one_name (column_nets plan) a.net c.net a.name c.name same a.named c.named) ∙ ap (λ (b : ℕ). in_bank b c.name) (sym e) ∙ sym c.is)
          (channel_told m.column.channel wire m.column.intervals m.column.track tracks.column m.laid.sizes m.seven m.column.assigned m.column.top m.column.bottom a.net c.net a.inner c.inner a.of c.of (a.layer ∙ sym c.layer))
    ]
  ]
