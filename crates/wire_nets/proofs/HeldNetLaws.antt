-- Wires of a net hold the cuts between them.
use Rattle.std.proofs.Common.{◌≡◌, ◌⊎◌, inl, inr, ◌∙◌, ℕ, ◌+◌, ◌*◌, ◌<◌, ◌≤◌, ℤ, pos, List, ◌+ℤ◌, ◌*ℤ◌, ◌≤ℤ◌, ◌++◌, refl, subst, arith}
use Rattle.std.specs.Prelude.{slice_index}
use Rattle.std.proofs.lemmas.Int.{ints}
use Rattle.std.proofs.lemmas.List.Elements.{Contains-append_left, Contains-append_right}
use Rattle.or_geom.specs.declared.shape.Shape.{Shape}
use Rattle.tech_rules.specs.declared.tech.Wire.{Wire}
use Rattle.wire_drawing.specs.Drawing.{IsVia}
use Rattle.channel_router.specs.declared.channel.Channel.{Channel}
use Rattle.channel_router.specs.Channel.{IsPinOf, places}
use Rattle.channel_router.specs.Intervals.{IsIntervalOf}
use Rattle.channel_router.specs.Wires.{IsWireOf, channel_height, track_y}
use Rattle.sram_netlist.specs.Organization.{Organization}
use Rattle.macro_layout.specs.LayoutKit.{LayoutKit}
use Rattle.macro_layout.specs.Places.{Floorplan}
use Rattle.macro_layout.specs.Floorplan.{Tracks}
use Rattle.macro_layout.specs.Wires.{IsTapAt, IsTapOfNet, trunk_x, ground_x}
use Rattle.good_wires.proofs.TapLaws.{tap_low}
use Rattle.good_wires.specs.Drawn.{IsDrawnMemory}
use Rattle.good_wires.proofs.LevelLaws.{track_above, track_below}
use Rattle.tech_rules.specs.Facts.{AreSizes}
use Rattle.macro_layout.specs.Pins.{IsRailOf}
use Rattle.good_wires.specs.Held.{IsCutHeld, DoRailsReach}
use Rattle.good_wires.proofs.WideLaws as wide
use Rattle.sram_netlist.specs.Nets.{Net}
use Rattle.joined_nets.specs.WireNets.{IsChannelWireOf, IsBankWireOf, IsWireInBanksOf, IsWireOfNet}
use Rattle.wire_nets.proofs.RailLaws.{one_rail}
use Rattle.good_wires.proofs.FitLaws.{same, power_fits, ground_fits}
use Rattle.good_wires.proofs.HeldLaws.{held, held_moved, bar_cuts, Cuts, other_cuts, longer}

-- Of a channel

channel : (IsMeant : Channel → Type 0) (wire : Wire) (tracks : ℕ) (nets : List Net) (n : Net) (s : Shape) → AreSizes wire → IsChannelWireOf IsMeant wire tracks nets n s → Cuts (IsChannelWireOf IsMeant wire tracks nets n) wire s
channel IsMeant wire tracks nets n s sizes c = by c.drawn.wires where
  ch : Channel
  ch = c.channel

  y : ℤ
  y = track_y ch.low wire c.drawn.t

  again : (h : Shape) → IsWireOf ch wire tracks c.number c.drawn.interval c.drawn.t h → IsChannelWireOf IsMeant wire tracks nets n h
  again h is = record { channel = ch; intervals = c.intervals; track = c.track; routed = c.routed; number = c.number; named = c.named; drawn = record { interval = c.drawn.interval; t = c.drawn.t; has = c.drawn.has; wires = is } }

  interval_is : IsIntervalOf (places ch) c.number c.drawn.interval
  interval_is = c.routed.nets.of_net c.number c.drawn.interval c.drawn.has.there

  from_top : (x : ℤ) → IsPinOf ch.top c.number x → IsPinOf (places ch) c.number x
  from_top x p = record { pin = p.pin; listed = Contains-append_left (ch.top ++ ch.bottom) ch.exits p.pin (Contains-append_left ch.top ch.bottom p.pin p.listed); at_x = p.at_x; of_net = p.of_net }

  from_bottom : (x : ℤ) → IsPinOf ch.bottom c.number x → IsPinOf (places ch) c.number x
  from_bottom x p = record { pin = p.pin; listed = Contains-append_left (ch.top ++ ch.bottom) ch.exits p.pin (Contains-append_right ch.top ch.bottom p.pin p.listed); at_x = p.at_x; of_net = p.of_net }

  by_trunk : (j : ℕ) (x : ℤ) → IsPinOf (places ch) c.number x → IsVia wire j x y s → IsCutHeld (IsChannelWireOf IsMeant wire tracks nets n) wire 2 s
  by_trunk j x p via =
      held (IsChannelWireOf IsMeant wire tracks nets n) wire j 2 x y c.drawn.interval.left y (c.drawn.interval.right +ℤ wire.width) (y +ℤ wire.width) s sizes via (λ h box. again h (inl box))
      (interval_is.least x p) (longer x c.drawn.interval.right wire.width (interval_is.greatest x p)) (same y) (same (y +ℤ wire.width))

  low : ch.low ≤ℤ y
  low = let a = track_above ch.low wire c.drawn.t sizes in let sp = sizes.space.from in go ch.low wire.space y a sp where
    go : (l s y : ℤ) → (l +ℤ s) ≤ℤ y → pos 1 ≤ℤ s → l ≤ℤ y
    go l s y a b = omega (arith, ints, a, b)

  high : (y +ℤ wire.width) ≤ℤ (ch.low +ℤ channel_height wire tracks)
  high = let b = track_below ch.low (ch.low +ℤ channel_height wire tracks) wire c.drawn.t tracks sizes (c.routed.count.below c.number c.drawn.t c.drawn.has.on) refl in go (y +ℤ wire.width) wire.space (ch.low +ℤ channel_height wire tracks) b sizes.space.from where
    go : (a s b : ℤ) → (a +ℤ s) ≤ℤ b → pos 1 ≤ℤ s → a ≤ℤ b
    go a s b le one = omega (arith, ints, le, one)

  by : IsWireOf ch wire tracks c.number c.drawn.interval c.drawn.t s → Cuts (IsChannelWireOf IsMeant wire tracks nets n) wire s
  by (inl trunk) = inr (2, omega arith, trunk.on)
  by (inr (inl (x, p, inl box))) = inr (3, omega arith, box.on)
  by (inr (inl (x, p, inr via))) = inl (
    2,
    omega arith,
    via.on,
    by_trunk 2 x (from_top x p) via,
    held (IsChannelWireOf IsMeant wire tracks nets n) wire 2 3 x y x y (x +ℤ wire.width) (ch.low +ℤ channel_height wire tracks) s sizes via (λ h box. again h (inr (inl (x, p, inl box)))) (same x) (same (x +ℤ wire.width)) (same y) high,
  )
  by (inr (inr (x, p, inl box))) = inr (1, omega arith, box.on)
  by (inr (inr (x, p, inr via))) = inl (
    1,
    omega arith,
    via.on,
    held (IsChannelWireOf IsMeant wire tracks nets n) wire 1 1 x y x ch.low (x +ℤ wire.width) (y +ℤ wire.width) s sizes via (λ h box. again h (inr (inr (x, p, inl box)))) (same x) (same (x +ℤ wire.width)) low (same (y +ℤ wire.width)),
    by_trunk 1 x (from_bottom x p) via,
  )

module _ (plan : Organization) (kit : LayoutKit) (wire : Wire) (tracks : Tracks) (f : Floorplan) (m : IsDrawnMemory plan kit wire tracks f) (words : 0 < plan.word_size) (tops : DoRailsReach plan kit wire tracks.column f) where
  abbrev InBank : Net → Shape → Type 0
  InBank = IsBankWireOf plan kit wire tracks f

  abbrev Drawn : Net → Shape → Type 0
  Drawn = IsWireOfNet plan kit wire tracks f

  tap : (n : Net) (s : Shape) (x y end : ℤ) → IsRailOf plan wire f 0 n x → IsTapOfNet plan kit wire tracks.column f n x y end → IsVia wire 2 x y s → Cuts (InBank n) wire s
  tap n s x y end rail is via =
      let at : IsTapAt plan kit wire tracks.column f x y end = record { net = n; rail = rail; tap = is } in
      let top = tops x y end at in
      let own = one_rail plan wire f top.tap.net n x m.laid.sizes top.tap.rail rail in
      inl (
        2,
        omega arith,
        via.on,
        held (InBank n) wire 2 2 x y x y end (y +ℤ wire.width) s m.laid.sizes via (λ h box. inr (inl (record { x = x; y = y; end = end; rail = rail; tap = is; drawn = inl box }))) (same x) (wide.tap_long plan kit wire tracks f m words x y end at) (same y) (same (y +ℤ wire.width)),
        held (InBank n) wire 2 3 x y x f.write_y (x +ℤ wire.width) (top.top +ℤ wire.width) s m.laid.sizes via
            (λ h box. inr (inr (inl (record { x = x; y = top.top; end = top.end; rail = rail; tap = subst (λ (k : Net). IsTapOfNet plan kit wire tracks.column f k x top.top top.end) own top.tap.tap; highest = top.highest; drawn = box })))) (same x) (same (x +ℤ wire.width))
            (tap_low plan kit wire tracks f x y end m at) (longer y top.top wire.width (top.highest y end at)),
      )

  bank_cuts : (n : Net) (s : Shape) → InBank n s → Cuts (InBank n) wire s
  bank_cuts n s (inl c) = other_cuts _ (InBank n) wire s (λ h is. inl is) (channel _ wire tracks.column _ n s m.laid.sizes c)
  bank_cuts n s (inr (inl t)) = elim t.drawn [
    | inl box ↦ inr (2, omega arith, box.on)
    | inr via ↦ tap n s t.x t.y t.end t.rail t.tap via
  ]
  bank_cuts n s (inr (inr (inl rail))) = inr (3, omega arith, rail.drawn.on)
  bank_cuts n s (inr (inr (inr (inl out)))) = inr (3, omega arith, out.drawn.on)
  bank_cuts n s (inr (inr (inr (inr (ground, inl joiner))))) = inr (0, omega arith, joiner.1.on)
  bank_cuts n s (inr (inr (inr (inr (ground, inr joiner))))) = inr (0, omega arith, joiner.on)

  banks : (n : Net) (s : Shape) → IsWireInBanksOf plan kit wire tracks f n s → Cuts (Drawn n) wire s
  banks n s b = put (bank_cuts b.net b.inner b.is) where
    -- a bank's wires stand so far right
    move : (metal : ℕ) → IsCutHeld (InBank b.net) wire metal b.inner → IsCutHeld (Drawn n) wire metal s
    move metal = held_moved (InBank b.net) (Drawn n) wire metal (pos b.bank *ℤ f.bank_width) b.inner s (λ h moved is sh. inr (record { bank = b.bank; below = b.below; net = b.net; named = b.named; inner = h; is = is; shifted = sh })) b.shifted

    put : Cuts (InBank b.net) wire b.inner → Cuts (Drawn n) wire s
    put (inl (j, lt, on, under, over)) = inl (j, lt, b.shifted.layer ∙ on, move j under, move (j + 1) over)
    put (inr (i, lt, on)) = inr (i, lt, b.shifted.layer ∙ on)

  cuts : (n : Net) (s : Shape) → Drawn n s → Cuts (Drawn n) wire s
  cuts n s (inl (inl c)) = other_cuts _ (Drawn n) wire s (λ h is. inl (inl is)) (channel _ wire tracks.main _ n s m.laid.sizes c)
  cuts n s (inl (inr (inl (named, inl trunk)))) = inr (1, omega arith, trunk.on)
  cuts n s (inl (inr (inl (named, inr (x, y, at, is))))) =
      bar_cuts (Drawn n) kit wire f (trunk_x plan kit wire f) x y s m.laid.sizes (wide.contents plan kit wire tracks f m words x (wide.power_from plan kit wire tracks f m words x y at)) (power_fits plan kit wire tracks f m x y at) (λ h b. inl (inr (inl (named, inr (x, y, at, b))))) (λ h t. inl (inr (inl (named, inl t)))) is
  cuts n s (inl (inr (inr (named, inl trunk)))) = inr (1, omega arith, trunk.on)
  cuts n s (inl (inr (inr (named, inr (x, y, at, is))))) =
      bar_cuts (Drawn n) kit wire f (ground_x plan kit wire f) x y s m.laid.sizes (wide.ground plan kit wire tracks f m words x (wide.contents plan kit wire tracks f m words x (wide.ground_from plan kit wire tracks f m words x y at))) (ground_fits plan kit wire tracks f m x y at) (λ h b. inl (inr (inr (named, inr (x, y, at, b))))) (λ h t. inl (inr (inr (named, inl t)))) is
  cuts n s (inr b) = banks n s b

-- Each wire of a net is on a metal, or is a cut that wires of the net hold on the metals below and above it.
pub cuts_held : (plan : Organization) (kit : LayoutKit) (wire : Wire) (tracks : Tracks) (f : Floorplan) → IsDrawnMemory plan kit wire tracks f → 0 < plan.word_size
    → DoRailsReach plan kit wire tracks.column f
    → (n : Net) (s : Shape) → IsWireOfNet plan kit wire tracks f n s
    → ((j : ℕ) × (j < 3) × (s.layer ≡ slice_index wire.cuts j) × IsCutHeld (IsWireOfNet plan kit wire tracks f n) wire j s × IsCutHeld (IsWireOfNet plan kit wire tracks f n) wire (j + 1) s) ⊎ ((i : ℕ) × (i < 4) × (s.layer ≡ slice_index wire.metals i))
cuts_held plan kit wire tracks f m words tops n s is = cuts plan kit wire tracks f m words tops n s is
