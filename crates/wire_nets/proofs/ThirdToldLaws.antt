-- Trunks of channels and taps, the wires on the third metal: each two are of one net or keep the wires' space.
use Rattle.std.proofs.Common.{◌≡◌, ◌⊎◌, inl, inr, ◌∙◌, ℕ, ◌<◌, ℤ, pos, ◌+ℤ◌, ◌*ℤ◌, ◌≤ℤ◌, ◌++◌, sym, ap, subst, arith}
use Rattle.std.specs.Prelude.{slice_index, slice_get, Some}
use Rattle.std.proofs.lemmas.Bool.{cases_lt, cases_eq}
use Rattle.std.proofs.lemmas.Int.{ints}
use Rattle.std.proofs.lemmas.List.Elements.{Contains-append_right}
use Rattle.or_geom.specs.declared.shape.Rect.{Rect}
use Rattle.or_geom.specs.declared.shape.Shape.{Shape}
use Rattle.tech_rules.specs.declared.tech.Wire.{Wire}
use Rattle.wire_drawing.specs.Drawing.{IsBox, pitch}
use Rattle.channel_router.specs.declared.channel.Interval.{Interval}
use Rattle.channel_router.specs.Channel.{IsPinOf, places}
use Rattle.channel_router.specs.Tracks.{HasTrack}
use Rattle.channel_router.specs.Wires.{channel_height, track_y}
use Rattle.sram_netlist.specs.Organization.{Organization, banks_of}
use Rattle.sram_netlist.specs.Instances.{NandAt, DriverAt, PrechargeAt, SenseAt}
use Rattle.sram_netlist.specs.Nets.{Net}
use Rattle.sram_netlist.specs.InstanceList.{tabulate_lists}
use Rattle.macro_layout.specs.LayoutKit.{LayoutKit}
use Rattle.macro_layout.specs.Places.{Floorplan}
use Rattle.macro_layout.specs.Floorplan.{Tracks, column_channel_y}
use Rattle.macro_layout.specs.Pins.{choice_nets, slice_nets, main_nets, column_nets}
use Rattle.macro_layout.specs.Wires.{IsTapAt, IsTapOfNet}
use Rattle.macro_layout.specs.Stated.{IsShifted}
use Rattle.good_wires.specs.Spaced.{AreApart}
use Rattle.good_wires.specs.Drawn.{IsDrawnMemory}
use Rattle.good_wires.proofs.ThirdTapLaws.{column_place, over, in_longer, tap_from, tap_to}
use Rattle.good_wires.proofs.LevelLaws.{Levels, levels, track_above, track_below}
use Rattle.good_wires.proofs.TapLaws.{tap_low, pin_in_zone}
use Rattle.good_wires.proofs.FourthLaws as fourth
use Rattle.joined_nets.specs.WireNets.{in_bank, IsWireOfNet}
use Rattle.wire_nets.specs.Named.{HasNamedNets, AreToldOn}
use Rattle.wire_nets.proofs.ToldLaws.{told_back, behind, one_name, box_left, box_right, box_below, box_above}
use Rattle.wire_nets.proofs.ChannelToldLaws.{lower_track}
use Rattle.wire_nets.proofs.KindLaws as kinds

module _ (plan : Organization) (kit : LayoutKit) (wire : Wire) (tracks : Tracks) (f : Floorplan) (m : IsDrawnMemory plan kit wire tracks f) (names : HasNamedNets plan kit wire tracks f m) where
  l : Levels plan kit wire f
  l = levels plan kit wire tracks f m.laid.sizes m.stands

  abbrev metal : ℕ → ℕ
  metal k = slice_index wire.metals k

  abbrev offset : ℕ → ℤ
  offset b = pos b *ℤ f.bank_width

  abbrev Told : Net → Net → Shape → Shape → Type 0
  Told n k s u = (n ≡ k) ⊎ AreApart wire.space s.rect u.rect

  abbrev IsMainWire : Net → Shape → Type 0
  IsMainWire = kinds.IsMainWire plan kit wire tracks f m 2

  abbrev IsColumnWire : Net → Shape → Type 0
  IsColumnWire = kinds.IsColumnWire plan kit wire tracks f m 2

  -- Kinds

  record IsMainTrunk (n : Net) (s : Shape) : Type 0 where
    pub routed : IsMainWire n s
    pub x : ℤ
    pub y : ℤ
    pub right : ℤ
    pub drawn : IsBox (metal 2) x y right (y +ℤ wire.width) s
    pub under : ((y +ℤ wire.width) +ℤ wire.space) ≤ℤ f.write_y

  record IsColumnTrunk (n : Net) (s : Shape) : Type 0 where
    pub routed : IsColumnWire n s
    pub interval : Interval
    pub t : ℕ
    pub has : HasTrack m.column.intervals m.column.track routed.net interval t
    pub drawn : IsBox (metal 2) (interval.left +ℤ offset routed.bank) (track_y m.column.channel.low wire t) ((interval.right +ℤ wire.width) +ℤ offset routed.bank) (track_y m.column.channel.low wire t +ℤ wire.width) s
    pub left : pitch wire ≤ℤ interval.left
    pub right : (interval.right +ℤ wire.width) ≤ℤ f.bank_width
    pub above : (column_channel_y kit f +ℤ wire.space) ≤ℤ track_y m.column.channel.low wire t
    pub under : ((track_y m.column.channel.low wire t +ℤ wire.width) +ℤ wire.space) ≤ℤ f.column_y

  record IsTap (n : Net) (s : Shape) : Type 0 where
    pub bank : ℕ
    pub below : bank < banks_of plan
    pub x : ℤ
    pub y : ℤ
    pub end : ℤ
    pub tap : IsTapAt plan kit wire tracks.column f x y end
    pub is : n ≡ in_bank bank tap.net
    pub drawn : IsBox (metal 2) (x +ℤ offset bank) y (end +ℤ offset bank) (y +ℤ wire.width) s

  abbrev IsOnThird : Net → Shape → Type 0
  IsOnThird n s = IsMainTrunk n s ⊎ (IsColumnTrunk n s ⊎ IsTap n s)

  main_kind : (n : Net) (s : Shape) → IsMainWire n s → IsMainTrunk n s
  main_kind n s w = by (kinds.main_box plan kit wire tracks f m 2 (omega arith) n s w) where
    by : kinds.IsMainBox plan kit wire tracks f m 2 n s w → IsMainTrunk n s
    by (inl (two, trunk)) = record {
      routed = w;
      x = w.of.interval.left;
      y = track_y m.main.channel.low wire w.of.t;
      right = w.of.interval.right +ℤ wire.width;
      drawn = trunk;
      under = track_below m.main.channel.low f.write_y wire w.of.t tracks.main m.laid.sizes (m.main.count.below w.net w.of.t w.of.has.on) (m.stands.write_y ∙ ap (λ (z : ℤ). z +ℤ channel_height wire tracks.main) (sym m.main.meant.low));
    }
    by (inr (inl (other, x, p, box))) = absurd (omega (arith, other))
    by (inr (inr (other, x, p, box))) = absurd (omega (arith, other))

  column_kind : (n : Net) (s : Shape) → IsColumnWire n s → IsColumnTrunk n s
  column_kind n s w = by (kinds.column_box plan kit wire tracks f m 2 (omega arith) n s w) where
    by : kinds.IsColumnBox plan kit wire tracks f m 2 n s w → IsColumnTrunk n s
    by (inl (two, trunk)) =
        let is = w.of in
        let i = m.column.nets.of_net w.net is.interval is.has.there in
        let a = column_place plan kit wire tracks f m w.net is.interval.left i.begins in
        let c = column_place plan kit wire tracks f m w.net is.interval.right i.ends in
        record {
          routed = w;
          interval = is.interval;
          t = is.t;
          has = is.has;
          drawn = fourth.moved_box plan kit wire tracks f m w.bank 2 is.interval.left (track_y m.column.channel.low wire is.t) (is.interval.right +ℤ wire.width) (track_y m.column.channel.low wire is.t +ℤ wire.width) w.inner s w.shifted trunk;
          left = a.from;
          right = c.to;
          above = subst (λ (z : ℤ). (z +ℤ wire.space) ≤ℤ track_y m.column.channel.low wire is.t) m.column.meant.low (track_above m.column.channel.low wire is.t m.laid.sizes);
          under = track_below m.column.channel.low f.column_y wire is.t tracks.column m.laid.sizes (m.column.count.below w.net is.t is.has.on) (m.stands.column_y ∙ ap (λ (z : ℤ). z +ℤ channel_height wire tracks.column) (sym m.column.meant.low));
        }
    by (inr (inl (other, x, p, box))) = absurd (omega (arith, other))
    by (inr (inr (other, x, p, box))) = absurd (omega (arith, other))

  on_third : (n : Net) (s : Shape) → s.layer ≡ metal 2 → IsWireOfNet plan kit wire tracks f n s → IsOnThird n s
  on_third n s on is = by (kinds.named_on_metal plan kit wire tracks f m 2 names (omega arith) n s on is) where
    in_its_bank : (b : ℕ) (name : Net) (inner : Shape) → n ≡ in_bank b name → b < banks_of plan → IsShifted (offset b) (pos 0) inner s → kinds.IsBankBox plan kit wire tracks f 2 name inner → IsOnThird n s
    in_its_bank b name inner named below sh (inl (two, tap, box)) = inr (inr (record { bank = b; below = below; x = tap.x; y = tap.y; end = tap.end; tap = record { net = name; rail = tap.rail; tap = tap.tap }; is = named; drawn = fourth.moved_box plan kit wire tracks f m b 2 tap.x tap.y tap.end (tap.y +ℤ wire.width) inner s sh box }))
    in_its_bank b name inner named below sh (inr (inl upper)) = let other = upper.0 in absurd (omega (arith, other))
    in_its_bank b name inner named below sh (inr (inr joiner)) = let other = joiner.0 in absurd (omega (arith, other))

    by : kinds.IsNamedOnMetal plan kit wire tracks f m 2 n s → IsOnThird n s
    by (inl main) = inl (main_kind n s main)
    by (inr (inl column)) = inr (inl (column_kind n s column))
    by (inr (inr (inl (inl (is, inl (other, trunk)))))) = absurd (omega (arith, other))
    by (inr (inr (inl (inl (is, inr bar))))) = let other = bar.0 in absurd (omega (arith, other))
    by (inr (inr (inl (inr (is, inl (other, trunk)))))) = absurd (omega (arith, other))
    by (inr (inr (inl (inr (is, inr bar))))) = let other = bar.0 in absurd (omega (arith, other))
    by (inr (inr (inr w))) = in_its_bank w.bank w.net w.inner w.named w.below w.shifted w.is

  -- Taps: over the columns' lower end, in the slices, or along a trunk of the column channel

  record IsChoice (name : Net) (x y end : ℤ) : Type 0 where
    pub number : ℕ
    pub choice : slice_get (column_nets plan) number ≡ Some name
    pub interval : Interval
    pub t : ℕ
    pub has : HasTrack m.column.intervals m.column.track number interval t
    pub at : y ≡ track_y m.column.channel.low wire t
    pub ends : end ≡ x +ℤ wire.width
    pub from : interval.left ≤ℤ x
    pub to : x ≤ℤ interval.right

  abbrev TapKind : Net → ℤ → ℤ → ℤ → Type 0
  TapKind name x y end = (f.column_y ≤ℤ y) ⊎ (((y +ℤ wire.width) ≤ℤ column_channel_y kit f) ⊎ IsChoice name x y end)

  tap_kind : (x y end : ℤ) → (is : IsTapAt plan kit wire tracks.column f x y end) → TapKind is.net x y end
  tap_kind x y end is = by is.tap where
    by : IsTapOfNet plan kit wire tracks.column f is.net x y end → TapKind is.net x y end
    by (inl (r, p)) = let n = pin_in_zone plan kit wire f (NandAt 0 r) p.port 2 is.net p.rect m.laid m.pins p.pin in inl (over y f.column_y p.rect p.at n.low)
    by (inr (inl (r, p))) = let n = pin_in_zone plan kit wire f (DriverAt 0 r) p.port 2 is.net p.rect m.laid m.pins p.pin in inl (over y f.column_y p.rect p.at n.low)
    by (inr (inr (inl (i, last, p)))) =
        let n = pin_in_zone plan kit wire f (SenseAt 0 i) p.port 2 is.net p.rect m.laid m.pins p.pin in
        let tall = m.sense_taps i p.port is.net p.rect x is.rail p.pin in
        inr (inl (below y (column_channel_y kit f) wire.width p.rect p.at tall n.high))
      where
        below : (y z w : ℤ) (rect : Rect) → y ≡ rect.y1 → rect.y2 ≡ rect.y1 +ℤ w → rect.y2 ≤ℤ (z +ℤ pos 0) → (y +ℤ w) ≤ℤ z
        below y z w rect at tall high = omega (arith, ints, at, tall, high)
    by (inr (inr (inr (inl (c, last, p))))) = let n = pin_in_zone plan kit wire f (PrechargeAt 0 c) p.port 2 is.net p.rect m.laid m.pins p.pin in inl (over y f.column_y p.rect p.at n.low)
    by (inr (inr (inr (inr c)))) =
        let t = m.column.trunk c.number y c.trunk in
        let choice = in_longer (choice_nets plan.col_bits) (tabulate_lists plan.word_size (slice_nets plan)) c.number is.net c.choice in
        let exit = (m.column.meant.exits c.number x).1 (is.net, choice, is.rail) in
        let there : IsPinOf (places m.column.channel) c.number x = record { pin = exit.pin; listed = Contains-append_right (m.column.channel.top ++ m.column.channel.bottom) m.column.channel.exits exit.pin exit.listed; at_x = exit.at_x; of_net = exit.of_net } in
        let i = m.column.nets.of_net c.number t.0 t.2.there in
        inr (inr (record { number = c.number; choice = choice; interval = t.0; t = t.1; has = t.2; at = t.3; ends = c.ends; from = i.least x there; to = i.greatest x there }))

  -- Pairs

  -- what ends in a bank is left of what begins behind the next one's first pitch
  bank_apart : (b c : ℕ) (right left : ℤ) → b < c → right ≤ℤ f.bank_width → pitch wire ≤ℤ left → ((right +ℤ offset b) +ℤ wire.space) ≤ℤ (left +ℤ offset c)
  bank_apart b c right left lt a d = let g = fourth.banks_left plan kit wire tracks f m b c lt in let w = m.laid.sizes.width.from in go right left f.bank_width (offset b) (offset c) wire.width wire.space g a d w where
    go : (r l q b c w s : ℤ) → (b +ℤ q) ≤ℤ c → r ≤ℤ q → (w +ℤ s) ≤ℤ l → pos 1 ≤ℤ w → ((r +ℤ b) +ℤ s) ≤ℤ (l +ℤ c)
    go r l q b c w s g a d e = omega (arith, ints, g, a, d, e)

  main_column : (n k : Net) (s u : Shape) → IsMainTrunk n s → IsColumnTrunk k u → Told n k s u
  main_column n k s u a c =
      box_below wire.space (metal 2) (metal 2) a.x a.y a.right (a.y +ℤ wire.width) (c.interval.left +ℤ offset c.routed.bank) (track_y m.column.channel.low wire c.t) ((c.interval.right +ℤ wire.width) +ℤ offset c.routed.bank) (track_y m.column.channel.low wire c.t +ℤ wire.width) s u a.drawn c.drawn
      (let p = a.under in let q = c.above in let h = l.sense in let k = l.channel in let sp = m.laid.sizes.space.from in omega (arith, ints, p, q, h, k, sp))

  main_tap : (n k : Net) (s u : Shape) → IsMainTrunk n s → IsTap k u → Told n k s u
  main_tap n k s u a t =
      let low = tap_low plan kit wire tracks f t.x t.y t.end m t.tap in
      box_below wire.space (metal 2) (metal 2) a.x a.y a.right (a.y +ℤ wire.width) (t.x +ℤ offset t.bank) t.y (t.end +ℤ offset t.bank) (t.y +ℤ wire.width) s u a.drawn t.drawn (let p = a.under in omega (arith, ints, p, low))

  columns_apart : (n k : Net) (s u : Shape) (a : IsColumnTrunk n s) (c : IsColumnTrunk k u) → a.routed.bank < c.routed.bank → Told n k s u
  columns_apart n k s u a c lt =
      box_left wire.space (metal 2) (metal 2) (a.interval.left +ℤ offset a.routed.bank) (track_y m.column.channel.low wire a.t) ((a.interval.right +ℤ wire.width) +ℤ offset a.routed.bank) (track_y m.column.channel.low wire a.t +ℤ wire.width)
      (c.interval.left +ℤ offset c.routed.bank) (track_y m.column.channel.low wire c.t) ((c.interval.right +ℤ wire.width) +ℤ offset c.routed.bank) (track_y m.column.channel.low wire c.t +ℤ wire.width) s u a.drawn c.drawn (bank_apart a.routed.bank c.routed.bank (a.interval.right +ℤ wire.width) c.interval.left lt a.right c.left)

  columns : (n k : Net) (s u : Shape) → IsColumnTrunk n s → IsColumnTrunk k u → Told n k s u
  columns n k s u a c = kinds.columns_told plan kit wire tracks f m 2 n k s u a.routed c.routed (λ lt. columns_apart n k s u a c lt) (λ lt. columns_apart k n u s c a lt)

  taps_apart : (n k : Net) (s u : Shape) (a : IsTap n s) (c : IsTap k u) → a.bank < c.bank → Told n k s u
  taps_apart n k s u a c lt =
      box_left wire.space (metal 2) (metal 2) (a.x +ℤ offset a.bank) a.y (a.end +ℤ offset a.bank) (a.y +ℤ wire.width) (c.x +ℤ offset c.bank) c.y (c.end +ℤ offset c.bank) (c.y +ℤ wire.width) s u a.drawn c.drawn
      (bank_apart a.bank c.bank a.end c.x lt (tap_to plan kit wire tracks f m a.x a.y a.end a.tap) (tap_from plan kit wire tracks f m c.x c.y c.end c.tap))

  -- a tap's rail tells its net
  same_rail : (n k : Net) (s u : Shape) (a : IsTap n s) (c : IsTap k u) → a.bank ≡ c.bank → a.x ≡ c.x → n ≡ k
  same_rail n k s u a c bank x =
      let p = names.rails a.bank a.tap.net a.x a.below a.tap.rail in
      let q = names.rails c.bank c.tap.net c.x c.below c.tap.rail in
      let e : offset a.bank ≡ offset c.bank = ap (λ (b : ℕ). pos b *ℤ f.bank_width) bank in
      let at : a.x +ℤ offset a.bank ≡ c.x +ℤ offset c.bank = omega (arith, ints, x, e) in
      a.is ∙ one_name (main_nets plan) p.number q.number (in_bank a.bank a.tap.net) (in_bank c.bank c.tap.net) (by p.number q.number (a.x +ℤ offset a.bank) (c.x +ℤ offset c.bank) at (m.main.top p.number q.number (a.x +ℤ offset a.bank) (c.x +ℤ offset c.bank) p.pin q.pin)) p.named q.named ∙ sym c.is
    where
      by : (i j : ℕ) (x y : ℤ) → x ≡ y → ((i ≡ j) × (x ≡ y)) ⊎ (((x +ℤ pitch wire) ≤ℤ y) ⊎ ((y +ℤ pitch wire) ≤ℤ x)) → i ≡ j
      by i j x y e (inl one) = one.0
      by i j x y e (inr (inl before)) = let w = m.laid.sizes.width.from in let sp = m.laid.sizes.space.from in absurd (omega (arith, ints, e, before, w, sp))
      by i j x y e (inr (inr after)) = let w = m.laid.sizes.width.from in let sp = m.laid.sizes.space.from in absurd (omega (arith, ints, e, after, w, sp))

  taps : (n k : Net) (s u : Shape) → IsTap n s → IsTap k u → Told n k s u
  taps n k s u a c = elim (cases_lt a.bank c.bank) [
    | inl lt ↦ taps_apart n k s u a c lt
    | inr ge ↦ elim (cases_lt c.bank a.bank) [
      | inl lt ↦ told_back wire.space u.rect s.rect sym (taps_apart k n u s c a lt)
      | inr le ↦ elim (m.taps a.x a.y a.end c.x c.y c.end a.tap c.tap) [
        | inl one ↦ inl (same_rail n k s u a c (omega (arith, ge, le)) one.0)
        | inr apart ↦ elim apart [
          | inl below ↦ box_below wire.space (metal 2) (metal 2) (a.x +ℤ offset a.bank) a.y (a.end +ℤ offset a.bank) (a.y +ℤ wire.width) (c.x +ℤ offset c.bank) c.y (c.end +ℤ offset c.bank) (c.y +ℤ wire.width) s u a.drawn c.drawn (behind a.y c.y wire.width wire.space below)
          | inr above ↦ box_above wire.space (metal 2) (metal 2) (a.x +ℤ offset a.bank) a.y (a.end +ℤ offset a.bank) (a.y +ℤ wire.width) (c.x +ℤ offset c.bank) c.y (c.end +ℤ offset c.bank) (c.y +ℤ wire.width) s u a.drawn c.drawn (behind c.y a.y wire.width wire.space above)
        ]
      ]
    ]
  ]

  -- a choice's tap lies on its trunk
  on_trunk : (n k : Net) (s u : Shape) (c : IsColumnTrunk n s) (t : IsTap k u) → c.routed.bank ≡ t.bank → (o : IsChoice t.tap.net t.x t.y t.end) → c.routed.net ≡ o.number → Told n k s u
  on_trunk n k s u c t same o own = inl (c.routed.is ∙ ap (in_bank c.routed.bank) (one_name (column_nets plan) c.routed.net o.number c.routed.name t.tap.net own c.routed.named o.choice) ∙ ap (λ (b : ℕ). in_bank b t.tap.net) same ∙ sym t.is)

  off_trunk : (n q : Net) (s u : Shape) (c : IsColumnTrunk n s) (t : IsTap q u) → c.routed.bank ≡ t.bank → (k : IsChoice t.tap.net t.x t.y t.end) → (c.routed.net ≡ k.number → ⊥) → Told n q s u
  off_trunk n q s u c t same k differ =
      let e : offset c.routed.bank ≡ offset t.bank = ap (λ (n : ℕ). pos n *ℤ f.bank_width) same in
      let at = k.at in
      elim (cases_lt c.t k.t) [
        | inl lt ↦ let g = lower_track m.column.channel.low wire c.t k.t m.laid.sizes lt in box_below wire.space (metal 2) (metal 2) (c.interval.left +ℤ offset c.routed.bank) (track_y m.column.channel.low wire c.t) ((c.interval.right +ℤ wire.width) +ℤ offset c.routed.bank) (track_y m.column.channel.low wire c.t +ℤ wire.width) (t.x +ℤ offset t.bank) t.y (t.end +ℤ offset t.bank) (t.y +ℤ wire.width) s u c.drawn t.drawn
            (omega (arith, ints, g, at))
        | inr ge ↦ elim (cases_lt k.t c.t) [
          | inl lt ↦ let g = lower_track m.column.channel.low wire k.t c.t m.laid.sizes lt in box_above wire.space (metal 2) (metal 2) (c.interval.left +ℤ offset c.routed.bank) (track_y m.column.channel.low wire c.t) ((c.interval.right +ℤ wire.width) +ℤ offset c.routed.bank) (track_y m.column.channel.low wire c.t +ℤ wire.width) (t.x +ℤ offset t.bank) t.y (t.end +ℤ offset t.bank) (t.y +ℤ wire.width) s u c.drawn t.drawn
              (omega (arith, ints, g, at))
          | inr le ↦
              let v : k.t ≡ c.t = omega (arith, ge, le) in
              elim (m.column.assigned.apart c.routed.net k.number c.t c.interval k.interval differ c.has (subst (HasTrack m.column.intervals m.column.track k.number k.interval) v k.has)) [
                | inl before ↦ let a = k.from in box_left wire.space (metal 2) (metal 2) (c.interval.left +ℤ offset c.routed.bank) (track_y m.column.channel.low wire c.t) ((c.interval.right +ℤ wire.width) +ℤ offset c.routed.bank) (track_y m.column.channel.low wire c.t +ℤ wire.width) (t.x +ℤ offset t.bank) t.y (t.end +ℤ offset t.bank) (t.y +ℤ wire.width) s u c.drawn t.drawn
                    (omega (arith, ints, before, a, e))
                | inr after ↦ let a = k.to in let n = k.ends in box_right wire.space (metal 2) (metal 2) (c.interval.left +ℤ offset c.routed.bank) (track_y m.column.channel.low wire c.t) ((c.interval.right +ℤ wire.width) +ℤ offset c.routed.bank) (track_y m.column.channel.low wire c.t +ℤ wire.width) (t.x +ℤ offset t.bank) t.y (t.end +ℤ offset t.bank) (t.y +ℤ wire.width) s u c.drawn t.drawn
                    (omega (arith, ints, after, a, n, e))
              ]
        ]
      ]

  column_tap : (n k : Net) (s u : Shape) → IsColumnTrunk n s → IsTap k u → Told n k s u
  column_tap n k s u c t = elim (cases_lt c.routed.bank t.bank) [
    | inl lt ↦ box_left wire.space (metal 2) (metal 2) (c.interval.left +ℤ offset c.routed.bank) (track_y m.column.channel.low wire c.t) ((c.interval.right +ℤ wire.width) +ℤ offset c.routed.bank) (track_y m.column.channel.low wire c.t +ℤ wire.width) (t.x +ℤ offset t.bank) t.y (t.end +ℤ offset t.bank) (t.y +ℤ wire.width) s u c.drawn t.drawn
        (bank_apart c.routed.bank t.bank (c.interval.right +ℤ wire.width) t.x lt c.right (tap_from plan kit wire tracks f m t.x t.y t.end t.tap))
    | inr ge ↦ elim (cases_lt t.bank c.routed.bank) [
      | inl lt ↦ box_right wire.space (metal 2) (metal 2) (c.interval.left +ℤ offset c.routed.bank) (track_y m.column.channel.low wire c.t) ((c.interval.right +ℤ wire.width) +ℤ offset c.routed.bank) (track_y m.column.channel.low wire c.t +ℤ wire.width) (t.x +ℤ offset t.bank) t.y (t.end +ℤ offset t.bank) (t.y +ℤ wire.width) s u c.drawn t.drawn
          (bank_apart t.bank c.routed.bank t.end c.interval.left lt (tap_to plan kit wire tracks f m t.x t.y t.end t.tap) c.left)
      | inr le ↦ elim (tap_kind t.x t.y t.end t.tap) [
        | inl over ↦ box_below wire.space (metal 2) (metal 2) (c.interval.left +ℤ offset c.routed.bank) (track_y m.column.channel.low wire c.t) ((c.interval.right +ℤ wire.width) +ℤ offset c.routed.bank) (track_y m.column.channel.low wire c.t +ℤ wire.width) (t.x +ℤ offset t.bank) t.y (t.end +ℤ offset t.bank) (t.y +ℤ wire.width) s u c.drawn t.drawn
            (let p = c.under in omega (arith, ints, p, over))
        | inr rest ↦ elim rest [
          | inl under ↦ box_above wire.space (metal 2) (metal 2) (c.interval.left +ℤ offset c.routed.bank) (track_y m.column.channel.low wire c.t) ((c.interval.right +ℤ wire.width) +ℤ offset c.routed.bank) (track_y m.column.channel.low wire c.t +ℤ wire.width) (t.x +ℤ offset t.bank) t.y (t.end +ℤ offset t.bank) (t.y +ℤ wire.width) s u c.drawn t.drawn
              (let p = c.above in omega (arith, ints, p, under))
          | inr o ↦ elim (cases_eq c.routed.net o.number) [
            | inl own ↦ on_trunk n k s u c t (omega (arith, ge, le)) o own
            | inr differ ↦ off_trunk n k s u c t (omega (arith, ge, le)) o differ
          ]
        ]
      ]
    ]
  ]

  pairs : (n k : Net) (s u : Shape) → IsOnThird n s → IsOnThird k u → Told n k s u
  pairs n k s u (inl a) (inl b) = kinds.mains_told plan kit wire tracks f m 2 n k s u a.routed b.routed
  pairs n k s u (inl a) (inr (inl b)) = main_column n k s u a b
  pairs n k s u (inl a) (inr (inr b)) = main_tap n k s u a b
  pairs n k s u (inr (inl a)) (inl b) = told_back wire.space u.rect s.rect sym (main_column k n u s b a)
  pairs n k s u (inr (inl a)) (inr (inl b)) = columns n k s u a b
  pairs n k s u (inr (inl a)) (inr (inr b)) = column_tap n k s u a b
  pairs n k s u (inr (inr a)) (inl b) = told_back wire.space u.rect s.rect sym (main_tap k n u s b a)
  pairs n k s u (inr (inr a)) (inr (inl b)) = told_back wire.space u.rect s.rect sym (column_tap k n u s b a)
  pairs n k s u (inr (inr a)) (inr (inr b)) = taps n k s u a b

-- Wires on the third metal are of one net or keep the wires' space.
pub third_told : (plan : Organization) (kit : LayoutKit) (wire : Wire) (tracks : Tracks) (f : Floorplan) (m : IsDrawnMemory plan kit wire tracks f) → HasNamedNets plan kit wire tracks f m → AreToldOn plan kit wire tracks f (slice_index wire.metals 2)
third_told plan kit wire tracks f m names n k s u a b on at = pairs plan kit wire tracks f m names n k s u (on_third plan kit wire tracks f m names n s on a) (on_third plan kit wire tracks f m names k u at b)
