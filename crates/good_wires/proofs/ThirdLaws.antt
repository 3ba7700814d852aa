-- On the third metal, wires are joined or keep the wires' space.
use Rattle.std.proofs.Common.{◌≡◌, ◌≢◌, ◌⊎◌, inl, inr, ◌∙◌, ℕ, ◌<◌, ℤ, pos, ◌+ℤ◌, ◌*ℤ◌, ◌≤ℤ◌, ◌++◌, sym, ap, subst, arith}
use Rattle.std.specs.Prelude.{slice_index, slice_get, Some}
use Rattle.std.proofs.lemmas.Bool.{cases_lt, cases_eq}
use Rattle.std.proofs.lemmas.Int.{ints}
use Rattle.std.proofs.lemmas.List.Elements.{Contains-append_right}
use Rattle.or_geom.specs.declared.shape.Point.{Point}
use Rattle.or_geom.specs.declared.shape.Rect.{Rect}
use Rattle.or_geom.specs.declared.shape.Shape.{Shape}
use Rattle.or_geom.proofs.ListLaws.{one_at}
use Rattle.cell_roles.specs.declared.role.Role.TheVariants.{Inv}
use Rattle.tech_rules.specs.declared.tech.Wire.{Wire}
use Rattle.wire_drawing.specs.Drawing.{IsBox, pitch}
use Rattle.channel_router.specs.declared.channel.Interval.{Interval}
use Rattle.channel_router.specs.Channel.{IsPinOf, places}
use Rattle.channel_router.specs.Tracks.{HasTrack}
use Rattle.channel_router.specs.Wires.{IsOfNet, IsWireOf, channel_height, track_y}
use Rattle.sram_netlist.specs.Organization.{Organization, banks_of}
use Rattle.sram_netlist.specs.Instances.{NandAt, DriverAt, PrechargeAt, SenseAt}
use Rattle.sram_netlist.specs.InstanceList.{tabulate_lists}
use Rattle.macro_layout.specs.LayoutKit.{LayoutKit}
use Rattle.macro_layout.specs.Places.{Floorplan}
use Rattle.macro_layout.specs.Floorplan.{Tracks, column_channel_y}
use Rattle.macro_layout.specs.Pins.{choice_nets, slice_nets}
use Rattle.macro_layout.specs.Wires.{IsWireInBank, IsTapAt, IsTapOfNet, IsBar}
use Rattle.macro_layout.specs.Stated.{IsShifted}
use Rattle.good_places.proofs.NumberLaws.{banks_before}
use Rattle.good_wires.specs.Spaced.{AreSpaced}
use Rattle.good_wires.specs.Drawn.{IsDrawnMemory, IsDrawnWire, ThirdMetalIsSpaced}
use Rattle.good_wires.proofs.SpacedLaws.{spaced_back, spaced_moves, one_box, box_left, box_right, box_below, box_above}
use Rattle.good_wires.proofs.LayerLaws.{metals_differ, cut_no_metal}
use Rattle.good_wires.proofs.ChannelLaws.{channels_are_spaced}
use Rattle.good_wires.proofs.LevelLaws.{Levels, levels, Sides, sides, track_above, track_below}
use Rattle.good_wires.proofs.TapLaws.{tap_low, pin_in_zone}
use Rattle.good_wires.proofs.FourthLaws as fourth
use Rattle.good_wires.proofs.ThirdTapLaws.{column_place, over, in_longer}
pub use Rattle.good_wires.proofs.ThirdTapLaws.{pin_cases, tap_from, tap_to}

module _ (plan : Organization) (kit : LayoutKit) (wire : Wire) (tracks : Tracks) (f : Floorplan) (m : IsDrawnMemory plan kit wire tracks f) where
  l : Levels plan kit wire f
  l = levels plan kit wire tracks f m.laid.sizes m.stands

  s_of : Sides plan kit wire f
  s_of = sides plan kit wire tracks f m.laid.sizes m.stands

  abbrev metal : ℕ → ℕ
  metal k = slice_index wire.metals k

  abbrev offset : ℕ → ℤ
  offset b = pos b *ℤ f.bank_width

  abbrev Spaced : Shape → Shape → Type 0
  Spaced s u = AreSpaced wire.space s.rect u.rect

  no_metal : (k : ℕ) (n : ℕ) → k < 4 → (k ≡ 2 → ⊥) → n ≡ metal k → n ≡ metal 2 → ⊥
  no_metal k n lt other e z = metals_differ wire k 2 m.seven lt (omega arith) other (sym e ∙ z)

  no_cut : (k : ℕ) (n : ℕ) → k < 3 → n ≡ slice_index wire.cuts k → n ≡ metal 2 → ⊥
  no_cut k n lt e z = cut_no_metal wire k 2 m.seven lt (omega arith) (sym e ∙ z)

  -- Kinds

  pub record IsMainTrunk (s : Shape) : Type 0 where
    pub net : ℕ
    pub of : IsOfNet m.main.channel wire m.main.intervals m.main.track tracks.main net s
    pub layer : s.layer ≡ metal 2
    pub x : ℤ
    pub y : ℤ
    pub right : ℤ
    pub drawn : IsBox (metal 2) x y right (y +ℤ wire.width) s
    pub above : (pos (kit.height Inv) +ℤ wire.space) ≤ℤ y
    pub under : ((y +ℤ wire.width) +ℤ wire.space) ≤ℤ f.write_y

  pub record IsColumnTrunk (s : Shape) : Type 0 where
    pub bank : ℕ
    pub inner : Shape
    pub net : ℕ
    pub of : IsOfNet m.column.channel wire m.column.intervals m.column.track tracks.column net inner
    pub layer : inner.layer ≡ metal 2
    pub shifted : IsShifted (offset bank) (pos 0) inner s
    pub interval : Interval
    pub t : ℕ
    pub has : HasTrack m.column.intervals m.column.track net interval t
    pub drawn : IsBox (metal 2) (interval.left +ℤ offset bank) (track_y m.column.channel.low wire t) ((interval.right +ℤ wire.width) +ℤ offset bank) (track_y m.column.channel.low wire t +ℤ wire.width) s
    pub left : pitch wire ≤ℤ interval.left
    pub right : (interval.right +ℤ wire.width) ≤ℤ f.bank_width
    pub above : (column_channel_y kit f +ℤ wire.space) ≤ℤ track_y m.column.channel.low wire t
    pub under : ((track_y m.column.channel.low wire t +ℤ wire.width) +ℤ wire.space) ≤ℤ f.column_y

  pub record IsTap (s : Shape) : Type 0 where
    pub bank : ℕ
    pub below : bank < banks_of plan
    pub x : ℤ
    pub y : ℤ
    pub end : ℤ
    pub tap : IsTapAt plan kit wire tracks.column f x y end
    pub drawn : IsBox (metal 2) (x +ℤ offset bank) y (end +ℤ offset bank) (y +ℤ wire.width) s

  abbrev pub IsOnThird : Shape → Type 0
  IsOnThird s = IsMainTrunk s ⊎ (IsColumnTrunk s ⊎ IsTap s)

  main_kind : (s : Shape) → s.layer ≡ metal 2 → (net : ℕ) → IsOfNet m.main.channel wire m.main.intervals m.main.track tracks.main net s → IsMainTrunk s
  main_kind s on net is = by is.wires where
    by : IsWireOf m.main.channel wire tracks.main net is.interval is.t s → IsMainTrunk s
    by (inl trunk) = record {
      net = net;
      of = is;
      layer = on;
      x = is.interval.left;
      y = track_y m.main.channel.low wire is.t;
      right = is.interval.right +ℤ wire.width;
      drawn = trunk;
      above = subst (λ (z : ℤ). (z +ℤ wire.space) ≤ℤ track_y m.main.channel.low wire is.t) m.main.meant.low (track_above m.main.channel.low wire is.t m.laid.sizes);
      under = track_below m.main.channel.low f.write_y wire is.t tracks.main m.laid.sizes (m.main.count.below net is.t is.has.on) (m.stands.write_y ∙ ap (λ (z : ℤ). z +ℤ channel_height wire tracks.main) (sym m.main.meant.low));
    }
    by (inr (inl (x, p, inl box))) = absurd (no_metal 3 s.layer (omega arith) (λ e. omega (arith, e)) box.on on)
    by (inr (inl (x, p, inr via))) = absurd (no_cut 2 s.layer (omega arith) via.on on)
    by (inr (inr (x, p, inl box))) = absurd (no_metal 1 s.layer (omega arith) (λ e. omega (arith, e)) box.on on)
    by (inr (inr (x, p, inr via))) = absurd (no_cut 1 s.layer (omega arith) via.on on)

  column_kind : (b : ℕ) (inner s : Shape) → IsShifted (offset b) (pos 0) inner s → s.layer ≡ metal 2 → (net : ℕ) → IsOfNet m.column.channel wire m.column.intervals m.column.track tracks.column net inner → IsColumnTrunk s
  column_kind b inner s sh on net is = by is.wires where
    on_inner : inner.layer ≡ metal 2
    on_inner = sym sh.layer ∙ on

    by : IsWireOf m.column.channel wire tracks.column net is.interval is.t inner → IsColumnTrunk s
    by (inl trunk) =
        let i = m.column.nets.of_net net is.interval is.has.there in
        let a = column_place plan kit wire tracks f m net is.interval.left i.begins in
        let c = column_place plan kit wire tracks f m net is.interval.right i.ends in
        record {
          bank = b;
          inner = inner;
          net = net;
          of = is;
          layer = on_inner;
          shifted = sh;
          interval = is.interval;
          t = is.t;
          has = is.has;
          drawn = fourth.moved_box plan kit wire tracks f m b 2 is.interval.left (track_y m.column.channel.low wire is.t) (is.interval.right +ℤ wire.width) (track_y m.column.channel.low wire is.t +ℤ wire.width) inner s sh trunk;
          left = a.from;
          right = c.to;
          above = subst (λ (z : ℤ). (z +ℤ wire.space) ≤ℤ track_y m.column.channel.low wire is.t) m.column.meant.low (track_above m.column.channel.low wire is.t m.laid.sizes);
          under = track_below m.column.channel.low f.column_y wire is.t tracks.column m.laid.sizes (m.column.count.below net is.t is.has.on) (m.stands.column_y ∙ ap (λ (z : ℤ). z +ℤ channel_height wire tracks.column) (sym m.column.meant.low));
        }
    by (inr (inl (x, p, inl box))) = absurd (no_metal 3 inner.layer (omega arith) (λ e. omega (arith, e)) box.on on_inner)
    by (inr (inl (x, p, inr via))) = absurd (no_cut 2 inner.layer (omega arith) via.on on_inner)
    by (inr (inr (x, p, inl box))) = absurd (no_metal 1 inner.layer (omega arith) (λ e. omega (arith, e)) box.on on_inner)
    by (inr (inr (x, p, inr via))) = absurd (no_cut 1 inner.layer (omega arith) via.on on_inner)

  bank_kind : (b : ℕ) (inner s : Shape) → b < banks_of plan → IsShifted (offset b) (pos 0) inner s → s.layer ≡ metal 2 → IsWireInBank plan kit wire tracks f inner → IsOnThird s
  bank_kind b inner s below sh on (inl channel) = let n = m.column.each inner channel in inr (inl (column_kind b inner s sh on n.0 n.1))
  bank_kind b inner s below sh on (inr (inl tap)) = elim tap.drawn [
    | inl box ↦ inr (inr (record { bank = b; below = below; x = tap.x; y = tap.y; end = tap.end; tap = tap.tap; drawn = fourth.moved_box plan kit wire tracks f m b 2 tap.x tap.y tap.end (tap.y +ℤ wire.width) inner s sh box }))
    | inr via ↦ absurd (no_cut 2 s.layer (omega arith) (sh.layer ∙ via.on) on)
  ]
  bank_kind b inner s below sh on (inr (inr (inl rail))) = absurd (no_metal 3 s.layer (omega arith) (λ e. omega (arith, e)) (sh.layer ∙ rail.drawn.on) on)
  bank_kind b inner s below sh on (inr (inr (inr (inl out)))) = absurd (no_metal 3 s.layer (omega arith) (λ e. omega (arith, e)) (sh.layer ∙ out.drawn.on) on)
  bank_kind b inner s below sh on (inr (inr (inr (inr (inl joiner))))) = absurd (no_metal 0 s.layer (omega arith) (λ e. omega (arith, e)) (sh.layer ∙ joiner.1.on) on)
  bank_kind b inner s below sh on (inr (inr (inr (inr (inr joiner))))) = absurd (no_metal 0 s.layer (omega arith) (λ e. omega (arith, e)) (sh.layer ∙ joiner.on) on)

  bar_elsewhere : (trunk x y : ℤ) (s : Shape) → s.layer ≡ metal 2 → IsBar wire trunk x y s → ⊥
  bar_elsewhere trunk x y s on (inl box) = no_metal 0 s.layer (omega arith) (λ e. omega (arith, e)) box.on on
  bar_elsewhere trunk x y s on (inr via) = no_cut 0 s.layer (omega arith) via.on on

  pub on_third : (s : Shape) → s.layer ≡ metal 2 → IsDrawnWire plan kit wire tracks f s → IsOnThird s
  on_third s on (inl (inl channel)) = let n = m.main.each s channel in inl (main_kind s on n.0 n.1)
  on_third s on (inl (inr (inl (inl trunk)))) = absurd (no_metal 1 s.layer (omega arith) (λ e. omega (arith, e)) trunk.on on)
  on_third s on (inl (inr (inl (inr (x, y, at, bar))))) = absurd (bar_elsewhere _ x y s on bar)
  on_third s on (inl (inr (inr (inl trunk)))) = absurd (no_metal 1 s.layer (omega arith) (λ e. omega (arith, e)) trunk.on on)
  on_third s on (inl (inr (inr (inr (x, y, at, bar))))) = absurd (bar_elsewhere _ x y s on bar)
  on_third s on (inr banks) = bank_kind banks.bank banks.inner s banks.below banks.shifted on banks.is

  -- Taps: over the columns' lower end, in the slices, or along a trunk of the column channel

  pub record IsChoice (x y end : ℤ) : Type 0 where
    pub number : ℕ
    pub interval : Interval
    pub t : ℕ
    pub has : HasTrack m.column.intervals m.column.track number interval t
    pub at : y ≡ track_y m.column.channel.low wire t
    pub ends : end ≡ x +ℤ wire.width
    pub from : interval.left ≤ℤ x
    pub to : x ≤ℤ interval.right

  abbrev pub TapKind : ℤ → ℤ → ℤ → Type 0
  TapKind x y end = (f.column_y ≤ℤ y) ⊎ (((y +ℤ wire.width) ≤ℤ column_channel_y kit f) ⊎ IsChoice x y end)

  pub tap_kind : (x y end : ℤ) → IsTapAt plan kit wire tracks.column f x y end → TapKind x y end
  tap_kind x y end is = by is.tap where
    by : IsTapOfNet plan kit wire tracks.column f is.net x y end → TapKind x y end
    by (inl (r, p)) = let n = pin_in_zone plan kit wire f (NandAt 0 r) p.port 2 is.net p.rect m.laid m.pins p.pin in inl (over y f.column_y p.rect p.at n.low)
    by (inr (inl (r, p))) = let n = pin_in_zone plan kit wire f (DriverAt 0 r) p.port 2 is.net p.rect m.laid m.pins p.pin in inl (over y f.column_y p.rect p.at n.low)
    by (inr (inr (inl (i, last, p)))) =
        let n = pin_in_zone plan kit wire f (SenseAt 0 i) p.port 2 is.net p.rect m.laid m.pins p.pin in
        let tall = m.sense_taps i p.port is.net p.rect x is.rail p.pin in
        inr (inl (below y (column_channel_y kit f) wire.width p.rect p.at tall n.high))
      where
        below : (y z w : ℤ) (rect : Rect) → y ≡ rect.y1 → rect.y2 ≡ rect.y1 +ℤ w → rect.y2 ≤ℤ (z +ℤ pos 0) → (y +ℤ w) ≤ℤ z
        below y z w rect at tall high = omega (arith, ints, at, tall, high)
    by (inr (inr (inr (inl (c, last, p))))) = let n = pin_in_zone plan kit wire f (PrechargeAt 0 c) p.port 2 is.net p.rect m.laid m.pins p.pin in inl (over y f.column_y p.rect p.at n.low)
    by (inr (inr (inr (inr c)))) =
        let t = m.column.trunk c.number y c.trunk in
        let exit = (m.column.meant.exits c.number x).1 (is.net, in_longer (choice_nets plan.col_bits) (tabulate_lists plan.word_size (slice_nets plan)) c.number is.net c.choice, is.rail) in
        let there : IsPinOf (places m.column.channel) c.number x = record { pin = exit.pin; listed = Contains-append_right (m.column.channel.top ++ m.column.channel.bottom) m.column.channel.exits exit.pin exit.listed; at_x = exit.at_x; of_net = exit.of_net } in
        let i = m.column.nets.of_net c.number t.0 t.2.there in
        inr (inr (record { number = c.number; interval = t.0; t = t.1; has = t.2; at = t.3; ends = c.ends; from = i.least x there; to = i.greatest x there }))

  -- Pairs

  banks_left : (b c : ℕ) → b < c → (offset b +ℤ f.bank_width) ≤ℤ offset c
  banks_left b c lt = banks_before b c f.bank_width lt s_of.wide

  -- what ends in a bank is left of what begins behind the next one's first pitch
  bank_apart : (b c : ℕ) (right left : ℤ) → b < c → right ≤ℤ f.bank_width → pitch wire ≤ℤ left → ((right +ℤ offset b) +ℤ wire.space) ≤ℤ (left +ℤ offset c)
  bank_apart b c right left lt a d = let g = banks_left b c lt in let w = m.laid.sizes.width.from in go right left f.bank_width (offset b) (offset c) wire.width wire.space g a d w where
    go : (r l q b c w s : ℤ) → (b +ℤ q) ≤ℤ c → r ≤ℤ q → (w +ℤ s) ≤ℤ l → pos 1 ≤ℤ w → ((r +ℤ b) +ℤ s) ≤ℤ (l +ℤ c)
    go r l q b c w s g a d e = omega (arith, ints, g, a, d, e)

  main_column : (s u : Shape) → IsMainTrunk s → IsColumnTrunk u → Spaced s u
  main_column s u a c =
      box_below wire.space (metal 2) (metal 2) a.x a.y a.right (a.y +ℤ wire.width) (c.interval.left +ℤ offset c.bank) (track_y m.column.channel.low wire c.t) ((c.interval.right +ℤ wire.width) +ℤ offset c.bank) (track_y m.column.channel.low wire c.t +ℤ wire.width) s u a.drawn c.drawn
      (let p = a.under in let q = c.above in let h = l.sense in let k = l.channel in let sp = m.laid.sizes.space.from in omega (arith, ints, p, q, h, k, sp))

  main_tap : (s u : Shape) → IsMainTrunk s → IsTap u → Spaced s u
  main_tap s u a t =
      let low = tap_low plan kit wire tracks f t.x t.y t.end m t.tap in
      box_below wire.space (metal 2) (metal 2) a.x a.y a.right (a.y +ℤ wire.width) (t.x +ℤ offset t.bank) t.y (t.end +ℤ offset t.bank) (t.y +ℤ wire.width) s u a.drawn t.drawn (let p = a.under in omega (arith, ints, p, low))

  columns_apart : (s u : Shape) (a : IsColumnTrunk s) (c : IsColumnTrunk u) → a.bank < c.bank → Spaced s u
  columns_apart s u a c lt =
      box_left wire.space (metal 2) (metal 2) (a.interval.left +ℤ offset a.bank) (track_y m.column.channel.low wire a.t) ((a.interval.right +ℤ wire.width) +ℤ offset a.bank) (track_y m.column.channel.low wire a.t +ℤ wire.width)
      (c.interval.left +ℤ offset c.bank) (track_y m.column.channel.low wire c.t) ((c.interval.right +ℤ wire.width) +ℤ offset c.bank) (track_y m.column.channel.low wire c.t +ℤ wire.width) s u a.drawn c.drawn (bank_apart a.bank c.bank (a.interval.right +ℤ wire.width) c.interval.left lt a.right c.left)

  columns : (s u : Shape) → IsColumnTrunk s → IsColumnTrunk u → Spaced s u
  columns s u a c = elim (cases_lt a.bank c.bank) [
    | inl lt ↦ columns_apart s u a c lt
    | inr ge ↦ elim (cases_lt c.bank a.bank) [
      | inl lt ↦ spaced_back wire.space u.rect s.rect (columns_apart u s c a lt)
      | inr le ↦
          let e : c.bank ≡ a.bank = omega (arith, ge, le) in
          spaced_moves wire.space (offset a.bank) a.inner c.inner s u a.shifted (subst (λ (k : ℕ). IsShifted (offset k) (pos 0) c.inner u) e c.shifted)
          (channels_are_spaced m.column.channel wire m.column.intervals m.column.track tracks.column m.laid.sizes m.seven m.column.assigned m.column.top m.column.bottom a.net c.net a.inner c.inner a.of c.of (a.layer ∙ sym c.layer))
    ]
  ]

  taps_apart : (s u : Shape) (a : IsTap s) (c : IsTap u) → a.bank < c.bank → Spaced s u
  taps_apart s u a c lt =
      box_left wire.space (metal 2) (metal 2) (a.x +ℤ offset a.bank) a.y (a.end +ℤ offset a.bank) (a.y +ℤ wire.width) (c.x +ℤ offset c.bank) c.y (c.end +ℤ offset c.bank) (c.y +ℤ wire.width) s u a.drawn c.drawn
      (bank_apart a.bank c.bank a.end c.x lt (tap_to plan kit wire tracks f m a.x a.y a.end a.tap) (tap_from plan kit wire tracks f m c.x c.y c.end c.tap))

  behind : (x u w s : ℤ) → (x +ℤ (w +ℤ s)) ≤ℤ u → ((x +ℤ w) +ℤ s) ≤ℤ u
  behind x u w s le = omega (arith, ints, le)

  taps : (s u : Shape) → IsTap s → IsTap u → Spaced s u
  taps s u a c = elim (cases_lt a.bank c.bank) [
    | inl lt ↦ taps_apart s u a c lt
    | inr ge ↦ elim (cases_lt c.bank a.bank) [
      | inl lt ↦ spaced_back wire.space u.rect s.rect (taps_apart u s c a lt)
      | inr le ↦ elim (m.taps a.x a.y a.end c.x c.y c.end a.tap c.tap) [
        | inl one ↦
            let e : offset a.bank ≡ offset c.bank = ap (λ (k : ℕ). pos k *ℤ f.bank_width) (omega (arith, ge, le)) in
            let x = one.0 in
            let y = one.1 in
            let z = one.2 in
            one_box wire.space (metal 2) (metal 2) (a.x +ℤ offset a.bank) a.y (a.end +ℤ offset a.bank) (a.y +ℤ wire.width) (c.x +ℤ offset c.bank) c.y (c.end +ℤ offset c.bank) (c.y +ℤ wire.width) s u a.drawn c.drawn
            (omega (arith, ints, x, e)) y (omega (arith, ints, z, e)) (omega (arith, ints, y))
        | inr apart ↦ elim apart [
          | inl below ↦ box_below wire.space (metal 2) (metal 2) (a.x +ℤ offset a.bank) a.y (a.end +ℤ offset a.bank) (a.y +ℤ wire.width) (c.x +ℤ offset c.bank) c.y (c.end +ℤ offset c.bank) (c.y +ℤ wire.width) s u a.drawn c.drawn (behind a.y c.y wire.width wire.space below)
          | inr above ↦ box_above wire.space (metal 2) (metal 2) (a.x +ℤ offset a.bank) a.y (a.end +ℤ offset a.bank) (a.y +ℤ wire.width) (c.x +ℤ offset c.bank) c.y (c.end +ℤ offset c.bank) (c.y +ℤ wire.width) s u a.drawn c.drawn (behind c.y a.y wire.width wire.space above)
        ]
      ]
    ]
  ]

  beside : (x y w : ℤ) → pos 1 ≤ℤ w → ◌≢◌ {A = Point} (record { x = x; y = y }) (record { x = x +ℤ w; y = y })
  beside x y w some e = let h : x ≡ x +ℤ w = ap (λ (p : Point). p.x) e in absurd (omega (arith, ints, h, some))

  -- a choice's tap lies on its trunk
  on_trunk : (s u : Shape) (c : IsColumnTrunk s) (t : IsTap u) → c.bank ≡ t.bank → (k : IsChoice t.x t.y t.end) → k.number ≡ c.net → Spaced s u
  on_trunk s u c t same k own =
      let e : offset c.bank ≡ offset t.bank = ap (λ (n : ℕ). pos n *ℤ f.bank_width) same in
      let i : c.interval ≡ k.interval = one_at m.column.intervals c.net c.interval k.interval c.has.there (subst (λ (n : ℕ). slice_get m.column.intervals n ≡ Some k.interval) own k.has.there) in
      let v : c.t ≡ k.t = one_at m.column.track c.net c.t k.t c.has.on (subst (λ (n : ℕ). slice_get m.column.track n ≡ Some k.t) own k.has.on) in
      let y : track_y m.column.channel.low wire c.t ≡ t.y = ap (λ (n : ℕ). track_y m.column.channel.low wire n) v ∙ sym k.at in
      let left = subst (λ (j : Interval). j.left ≤ℤ t.x) (sym i) k.from in
      let right = subst (λ (j : Interval). t.x ≤ℤ j.right) (sym i) k.to in
      let end = k.ends in
      let some = m.laid.sizes.width.from in
      let cl = c.drawn.left in
      let cr = c.drawn.right in
      let cb = c.drawn.low in
      let ch = c.drawn.high in
      let tl = t.drawn.left in
      let tr = t.drawn.right in
      let tb = t.drawn.low in
      let th = t.drawn.high in
      inl (record {
        p = record { x = t.x +ℤ offset t.bank; y = t.y };
        q = record { x = (t.x +ℤ offset t.bank) +ℤ wire.width; y = t.y };
        differ = beside (t.x +ℤ offset t.bank) t.y wire.width some;
        p_in_a = record { left = omega (arith, ints, cl, e, left); right = omega (arith, ints, cr, e, right, some); low = omega (arith, ints, cb, y); high = omega (arith, ints, ch, y, some) };
        p_in_b = record { left = omega (arith, ints, tl); right = omega (arith, ints, tr, end, some); low = omega (arith, ints, tb); high = omega (arith, ints, th, some) };
        q_in_a = record { left = omega (arith, ints, cl, e, left, some); right = omega (arith, ints, cr, e, right); low = omega (arith, ints, cb, y); high = omega (arith, ints, ch, y, some) };
        q_in_b = record { left = omega (arith, ints, tl, some); right = omega (arith, ints, tr, end); low = omega (arith, ints, tb); high = omega (arith, ints, th, some) };
      })

  lower_track : (t v : ℕ) → t < v → ((track_y m.column.channel.low wire t +ℤ wire.width) +ℤ wire.space) ≤ℤ track_y m.column.channel.low wire v
  lower_track t v lt = go m.column.channel.low wire.width wire.space (pos t *ℤ pitch wire) (pos v *ℤ pitch wire) (banks_before t v (pitch wire) lt (let a = m.laid.sizes.width.from in let b = m.laid.sizes.space.from in omega (arith, ints, a, b))) where
    go : (low w s t v : ℤ) → (t +ℤ (w +ℤ s)) ≤ℤ v → (((low +ℤ (s +ℤ t)) +ℤ w) +ℤ s) ≤ℤ (low +ℤ (s +ℤ v))
    go low w s t v le = omega (arith, ints, le)

  off_trunk : (s u : Shape) (c : IsColumnTrunk s) (t : IsTap u) → c.bank ≡ t.bank → (k : IsChoice t.x t.y t.end) → (c.net ≡ k.number → ⊥) → Spaced s u
  off_trunk s u c t same k differ =
      let e : offset c.bank ≡ offset t.bank = ap (λ (n : ℕ). pos n *ℤ f.bank_width) same in
      let at = k.at in
      elim (cases_lt c.t k.t) [
        | inl lt ↦ let g = lower_track c.t k.t lt in box_below wire.space (metal 2) (metal 2) (c.interval.left +ℤ offset c.bank) (track_y m.column.channel.low wire c.t) ((c.interval.right +ℤ wire.width) +ℤ offset c.bank) (track_y m.column.channel.low wire c.t +ℤ wire.width) (t.x +ℤ offset t.bank) t.y (t.end +ℤ offset t.bank) (t.y +ℤ wire.width) s u c.drawn t.drawn
            (omega (arith, ints, g, at))
        | inr ge ↦ elim (cases_lt k.t c.t) [
          | inl lt ↦ let g = lower_track k.t c.t lt in box_above wire.space (metal 2) (metal 2) (c.interval.left +ℤ offset c.bank) (track_y m.column.channel.low wire c.t) ((c.interval.right +ℤ wire.width) +ℤ offset c.bank) (track_y m.column.channel.low wire c.t +ℤ wire.width) (t.x +ℤ offset t.bank) t.y (t.end +ℤ offset t.bank) (t.y +ℤ wire.width) s u c.drawn t.drawn
              (omega (arith, ints, g, at))
          | inr le ↦
              let v : k.t ≡ c.t = omega (arith, ge, le) in
              elim (m.column.assigned.apart c.net k.number c.t c.interval k.interval differ c.has (subst (HasTrack m.column.intervals m.column.track k.number k.interval) v k.has)) [
                | inl before ↦ let a = k.from in box_left wire.space (metal 2) (metal 2) (c.interval.left +ℤ offset c.bank) (track_y m.column.channel.low wire c.t) ((c.interval.right +ℤ wire.width) +ℤ offset c.bank) (track_y m.column.channel.low wire c.t +ℤ wire.width) (t.x +ℤ offset t.bank) t.y (t.end +ℤ offset t.bank) (t.y +ℤ wire.width) s u c.drawn t.drawn
                    (omega (arith, ints, before, a, e))
                | inr after ↦ let a = k.to in let n = k.ends in box_right wire.space (metal 2) (metal 2) (c.interval.left +ℤ offset c.bank) (track_y m.column.channel.low wire c.t) ((c.interval.right +ℤ wire.width) +ℤ offset c.bank) (track_y m.column.channel.low wire c.t +ℤ wire.width) (t.x +ℤ offset t.bank) t.y (t.end +ℤ offset t.bank) (t.y +ℤ wire.width) s u c.drawn t.drawn
                    (omega (arith, ints, after, a, n, e))
              ]
        ]
      ]

  column_tap : (s u : Shape) → IsColumnTrunk s → IsTap u → Spaced s u
  column_tap s u c t = elim (cases_lt c.bank t.bank) [
    | inl lt ↦ box_left wire.space (metal 2) (metal 2) (c.interval.left +ℤ offset c.bank) (track_y m.column.channel.low wire c.t) ((c.interval.right +ℤ wire.width) +ℤ offset c.bank) (track_y m.column.channel.low wire c.t +ℤ wire.width) (t.x +ℤ offset t.bank) t.y (t.end +ℤ offset t.bank) (t.y +ℤ wire.width) s u c.drawn t.drawn
        (bank_apart c.bank t.bank (c.interval.right +ℤ wire.width) t.x lt c.right (tap_from plan kit wire tracks f m t.x t.y t.end t.tap))
    | inr ge ↦ elim (cases_lt t.bank c.bank) [
      | inl lt ↦ box_right wire.space (metal 2) (metal 2) (c.interval.left +ℤ offset c.bank) (track_y m.column.channel.low wire c.t) ((c.interval.right +ℤ wire.width) +ℤ offset c.bank) (track_y m.column.channel.low wire c.t +ℤ wire.width) (t.x +ℤ offset t.bank) t.y (t.end +ℤ offset t.bank) (t.y +ℤ wire.width) s u c.drawn t.drawn
          (bank_apart t.bank c.bank t.end c.interval.left lt (tap_to plan kit wire tracks f m t.x t.y t.end t.tap) c.left)
      | inr le ↦ elim (tap_kind t.x t.y t.end t.tap) [
        | inl over ↦ box_below wire.space (metal 2) (metal 2) (c.interval.left +ℤ offset c.bank) (track_y m.column.channel.low wire c.t) ((c.interval.right +ℤ wire.width) +ℤ offset c.bank) (track_y m.column.channel.low wire c.t +ℤ wire.width) (t.x +ℤ offset t.bank) t.y (t.end +ℤ offset t.bank) (t.y +ℤ wire.width) s u c.drawn t.drawn
            (let p = c.under in omega (arith, ints, p, over))
        | inr rest ↦ elim rest [
          | inl under ↦ box_above wire.space (metal 2) (metal 2) (c.interval.left +ℤ offset c.bank) (track_y m.column.channel.low wire c.t) ((c.interval.right +ℤ wire.width) +ℤ offset c.bank) (track_y m.column.channel.low wire c.t +ℤ wire.width) (t.x +ℤ offset t.bank) t.y (t.end +ℤ offset t.bank) (t.y +ℤ wire.width) s u c.drawn t.drawn
              (let p = c.above in omega (arith, ints, p, under))
          | inr k ↦ elim (cases_eq c.net k.number) [
            | inl own ↦ on_trunk s u c t (omega (arith, ge, le)) k (sym own)
            | inr differ ↦ off_trunk s u c t (omega (arith, ge, le)) k differ
          ]
        ]
      ]
    ]
  ]

  mains : (s u : Shape) → IsMainTrunk s → IsMainTrunk u → Spaced s u
  mains s u a c = channels_are_spaced m.main.channel wire m.main.intervals m.main.track tracks.main m.laid.sizes m.seven m.main.assigned m.main.top m.main.bottom a.net c.net s u a.of c.of (a.layer ∙ sym c.layer)

  pairs : (s u : Shape) → IsOnThird s → IsOnThird u → Spaced s u
  pairs s u (inl a) (inl b) = mains s u a b
  pairs s u (inl a) (inr (inl b)) = main_column s u a b
  pairs s u (inl a) (inr (inr b)) = main_tap s u a b
  pairs s u (inr (inl a)) (inl b) = spaced_back wire.space u.rect s.rect (main_column u s b a)
  pairs s u (inr (inl a)) (inr (inl b)) = columns s u a b
  pairs s u (inr (inl a)) (inr (inr b)) = column_tap s u a b
  pairs s u (inr (inr a)) (inl b) = spaced_back wire.space u.rect s.rect (main_tap u s b a)
  pairs s u (inr (inr a)) (inr (inl b)) = spaced_back wire.space u.rect s.rect (column_tap u s b a)
  pairs s u (inr (inr a)) (inr (inr b)) = taps s u a b

pub third_metal_is_spaced : ThirdMetalIsSpaced
third_metal_is_spaced plan kit wire tracks f m s u a b on at = pairs plan kit wire tracks f m s u (on_third plan kit wire tracks f m s on a) (on_third plan kit wire tracks f m u at b)
