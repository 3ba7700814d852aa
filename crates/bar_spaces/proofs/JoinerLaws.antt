-- Between a joiner and a bar of its part, what is covered in the window is covered in the memory.
use Rattle.std.proofs.Common.{◌≡◌, ◌⊎◌, inl, inr, ◌∙◌, ℕ, ◌*◌, ◌<◌, ℤ, pos, ◌+ℤ◌, ◌-ℤ◌, ◌*ℤ◌, ◌≤ℤ◌, ◌<ℤ◌, List, sym, subst, arith}
use Rattle.std.specs.Prelude.{Contains, slice_index}
use Rattle.std.proofs.lemmas.Int.{ints, by_lt_z}
use Rattle.or_geom.specs.declared.shape.Shape.{Shape}
use Rattle.or_geom.specs.Covered.{HasCellInSome}
use Rattle.shape_bins.specs.Layers.{rects_on}
use Rattle.tech_rules.specs.declared.tech.Wire.{Wire}
use Rattle.sram_netlist.specs.Organization.{Organization, columns_of, banks_of}
use Rattle.sram_netlist.specs.BitCells.{Alike}
use Rattle.macro_layout.specs.LayoutKit.{LayoutKit}
use Rattle.macro_layout.specs.Places.{Floorplan, bank_x, bit_width, columns_x}
use Rattle.macro_layout.specs.Floorplan.{Tracks}
use Rattle.macro_layout.specs.Wires.{trunk_x, columns_end}
use Rattle.good_places.specs.Beside.{HaveOneLeftPart}
use Rattle.good_places.specs.Leaves.{ReachesNeighboursOnly, HasLeavesAndWires}
use Rattle.good_places.specs.Windows.{IsWrittenPlan}
use Rattle.good_places.proofs.NumberLaws.{times_low}
use Rattle.good_wires.specs.Drawn.{IsDrawnMemory, IsDrawnWire}
use Rattle.good_wires.specs.Kept.{AllDrawInside}
use Rattle.good_wires.proofs.LevelLaws.{sides}
use Rattle.supply_bars.specs.Heights.{Storey, LogicRow, Height, WriteHigh, ColumnHigh, part_of, low, bar_begin, HasJoiner, trunk_by, is_power, IsBarAlong, IsJoinerAlong}
use Rattle.supply_bars.proofs.PartLaws.{rise_of, tall_of, LiesInPart, in_part, parts, trunks, banks_end, joiner_is, joiner_begins}
use Rattle.supply_bars.proofs.SideLaws.{IsAlikeLeft, IsAlikeRight}
use Rattle.supply_bars.proofs.PairedLaws.{ArePaired, zone_back, begins_at, no_joiner}
use Rattle.supply_bars.proofs.KindLaws.{kinds_are_paired}
use Rattle.bar_spaces.proofs.OverLaws.{Fills, SpansUnit, AreStacked}
use Rattle.supply_bars.proofs.BarLaws.{IsUp, up_height, same_bank}
use Rattle.bar_spaces.proofs.CoverMoveLaws.{IsCellOf, unit_rect, unit_near, unit_overlaps, cell_covers}
use Rattle.bar_spaces.proofs.ZoneAtLaws.{HasZoneAt, window, one_left, columns_at, fronts_at, slices_at}

-- numbers beside a cell of a zone
there_from : (reach ex here there x y z : ℤ) → pos 1 ≤ℤ reach → IsAlikeLeft reach ex here there x y → there ≡ here +ℤ ex → x ≤ℤ z → here ≤ℤ z → y ≤ℤ (z +ℤ ex)
there_from reach ex here there x y z some (inl e) moved le inside = omega (arith, ints, e, le)
there_from reach ex here there x y z some (inr far) moved le inside = let t = far.1 in omega (arith, ints, some, t, moved, inside)

there_to : (reach ex here there x y z : ℤ) → pos 1 ≤ℤ reach → IsAlikeRight reach ex here there x y → there ≡ here +ℤ ex → z <ℤ x → z <ℤ here → (z +ℤ ex) <ℤ y
there_to reach ex here there x y z some (inl e) moved lt inside = omega (arith, ints, e, lt)
there_to reach ex here there x y z some (inr far) moved lt inside = let t = far.1 in omega (arith, ints, some, t, moved, inside)

there_end : (s ex here there t w v z : ℤ) → (there +ℤ s) ≤ℤ t → t ≤ℤ v → pos 1 ≤ℤ s → pos 1 ≤ℤ w → there ≡ here +ℤ ex → z <ℤ here → (z +ℤ ex) <ℤ (v +ℤ w)
there_end s ex here there t w v z a b c d e f = omega (arith, ints, a, b, c, d, e, f)

-- the last unit of a joiner, which a bar of its part spans too
module _ (plan : Organization) (kit : LayoutKit) (wire : Wire) (tracks : Tracks) (f : Floorplan) (m : IsDrawnMemory plan kit wire tracks f) (some : 0 < columns_of plan * bit_width kit) where
  last_unit : ℕ → ℤ
  last_unit b = (columns_end plan kit f +ℤ (pos b *ℤ f.bank_width)) -ℤ pos 1

  pub columns_wide : columns_x plan kit f <ℤ columns_end plan kit f
  columns_wide = go (columns_x plan kit f) (columns_of plan * bit_width kit) some where
    go : (c : ℤ) (n : ℕ) → 0 < n → c <ℤ (c +ℤ pos n)
    go c n lt = omega (arith, ints, lt)

  joiner_spans : (b : ℕ) (h : Height) (s : Shape) → IsJoinerAlong plan kit wire f b h s → SpansUnit s.rect (last_unit b)
  unfolding last_unit
  joiner_spans b h s j =
      let a = (joiner_begins plan kit wire tracks f m h j.has).1 in
      let c = columns_wide in
      let l = j.left in
      let r = j.right in
      record { left = omega (arith, ints, a, c, l); right = omega (arith, ints, r) }

  bar_begins : (q : Height) → (LogicRow ≡ part_of q → ⊥) → bar_begin plan kit f q ≤ℤ columns_x plan kit f
  bar_begins q upper = elim (begins_at q) [
    | inl logic ↦ absurd (upper logic.0)
    | inr rest ↦ elim rest [
      | inl is ↦ subst (λ (z : ℤ). z ≤ℤ columns_x plan kit f) (sym (is plan kit f)) (same (columns_x plan kit f))
      | inr is ↦ subst (λ (z : ℤ). z ≤ℤ columns_x plan kit f) (sym (is plan kit f)) (sides plan kit wire tracks f m.laid.sizes m.stands).columns
    ]
  ] where
    same : (z : ℤ) → z ≤ℤ z
    same z = omega (arith, ints)

  bar_spans : (b : ℕ) (q : Height) (s : Shape) → b < banks_of plan → (LogicRow ≡ part_of q → ⊥) → IsBarAlong plan kit wire f q s → SpansUnit s.rect (last_unit b)
  unfolding last_unit
  bar_spans b q s below upper bar =
      let a = bar_begins q upper in
      let c = columns_wide in
      let t = times_low b f.bank_width (sides plan kit wire tracks f m.laid.sizes m.stands).wide in
      let e = banks_end plan kit wire tracks f m b below in
      let u = trunks plan kit wire tracks f m (is_power q) in
      let w = m.laid.sizes.width.from in
      let v = m.laid.sizes.space.from in
      let l = bar.left in
      let r = bar.right in
      let is = m.stands.bank_width in
      record { left = omega (arith, ints, a, c, t, l); right = go s.rect.x2 (trunk_by plan kit wire f (is_power q)) wire.width wire.space (columns_end plan kit f) f.bank_width (pos b *ℤ f.bank_width) (trunk_x plan kit wire f) r is e u w v }
    where
      go : (x2 v w s e bw q t : ℤ) → x2 ≡ v +ℤ w → bw ≡ e → ((bw +ℤ q) +ℤ s) ≤ℤ t → t ≤ℤ v → pos 1 ≤ℤ w → pos 1 ≤ℤ s → (((e +ℤ q) -ℤ pos 1) +ℤ pos 1) ≤ℤ x2
      go x2 v w s e bw q t a b c d g h = omega (arith, ints, a, b, c, d, g, h)

module _ (Flat : List ℕ → Shape → Type 0) (plan : Organization) (kit : LayoutKit) (bit : List ℕ) (wire : Wire) (tracks many : Tracks) (f g : Floorplan) (reach : ℤ) (p : IsWrittenPlan plan) (short : ReachesNeighboursOnly kit wire reach) (m : IsDrawnMemory plan kit wire tracks f) (n : IsDrawnMemory (window plan kit bit wire f reach p m.laid short) kit wire many g)
    (insides : AllDrawInside wire Flat (window plan kit bit wire f reach p m.laid short) kit (Alike bit)) (listed : Contains wire.metals (slice_index wire.metals 0)) (from to : List Shape)
    (has_from : HasLeavesAndWires (slice_index wire.metals 0) Flat (window plan kit bit wire f reach p m.laid short) kit (Alike bit) g (IsDrawnWire (window plan kit bit wire f reach p m.laid short) kit wire many g) from) (has_to : HasLeavesAndWires (slice_index wire.metals 0) Flat plan kit (Alike bit) f (IsDrawnWire plan kit wire tracks f) to) where
  abbrev metal : ℕ
  metal = slice_index wire.metals 0

  abbrev other : Organization
  other = window plan kit bit wire f reach p m.laid short

  same : HaveOneLeftPart plan other
  same = one_left plan kit bit wire f reach p m.laid short

  zone_for : (h : Height) → HasJoiner h → (b : ℕ) → b < banks_of plan → (x : ℤ) → bank_x f b (bar_begin plan kit f h) ≤ℤ x → x <ℤ bank_x f b (columns_end plan kit f) → HasZoneAt reach plan other kit bit f g (low f (part_of h)) x
  zone_for h has b below x from to = by h (joiner_is h has) from where
    by : (h : Height) → (h ≡ WriteHigh) ⊎ (h ≡ ColumnHigh) → bank_x f b (bar_begin plan kit f h) ≤ℤ x → HasZoneAt reach plan other kit bit f g (low f (part_of h)) x
    by h (inl e) from = subst (λ (k : Height). HasZoneAt reach plan other kit bit f g (low f (part_of k)) x) (sym e) (slices_at plan kit bit wire f reach p m.laid short g n.laid b below x (subst (λ (k : Height). bank_x f b (bar_begin plan kit f k) ≤ℤ x) e from) to)
    by h (inr e) from = subst (λ (k : Height). HasZoneAt reach plan other kit bit f g (low f (part_of k)) x) (sym e) (by_lt_z x (bank_x f b (columns_x plan kit f))
        (λ lt. fronts_at plan kit bit wire f reach p m.laid short g n.laid b below x (subst (λ (k : Height). bank_x f b (bar_begin plan kit f k) ≤ℤ x) e from) lt) (λ ge. columns_at plan kit bit wire f reach p m.laid short g n.laid b below x ge to))

  module _ (b : ℕ) (h q : Height) (part : part_of h ≡ part_of q) (joiner bar joiner2 bar2 : Shape) (is_joiner : IsJoinerAlong plan kit wire f b h joiner) (is_bar : IsBarAlong plan kit wire f q bar) (is_joiner2 : IsJoinerAlong other kit wire g b h joiner2) (is_bar2 : IsBarAlong other kit wire g q bar2) where
    abbrev up : ℤ
    up = low f (part_of h) -ℤ low g (part_of h)

    one : pos 1 ≤ℤ wire.width
    one = m.laid.sizes.width.from

    -- the zone that has a place of the joiner, with its pair
    module _ (x : ℤ) (z : HasZoneAt reach plan other kit bit f g (low f (part_of h)) x) (pair : ArePaired plan other kit wire f g reach z.alike.left z.alike.down z.here z.there) where
      -- it is of the joiner's part
      zone_part : pair.part ≡ part_of h
      zone_part = elim (parts plan kit wire tracks f m pair.part (part_of h)) [
        | inl at ↦ at
        | inr apart ↦ elim apart [
          | inl below ↦ absurd (go (low f pair.part) (low f (part_of h)) z.here.low (tall_of plan kit pair.part) pair.low_here z.at_low below (tall_some pair.part))
          | inr above ↦ absurd (back (low f pair.part) (low f (part_of h)) z.here.low (tall_of plan kit (part_of h)) pair.low_here z.at_low above (tall_some (part_of h)))
        ]
      ] where
        tall_some : (p : Storey) → pos 0 ≤ℤ tall_of plan kit p
        tall_some p = omega (arith, ints)

        go : (p q l t : ℤ) → l ≡ p → l ≡ q → ((p +ℤ t) +ℤ wire.space) ≤ℤ q → pos 0 ≤ℤ t → ⊥
        go p q l t a c d e = let s = m.laid.sizes.space.from in omega (arith, ints, a, c, d, e, s)

        back : (p q l t : ℤ) → l ≡ p → l ≡ q → ((q +ℤ t) +ℤ wire.space) ≤ℤ p → pos 0 ≤ℤ t → ⊥
        back p q l t a c d e = let s = m.laid.sizes.space.from in omega (arith, ints, a, c, d, e, s)

      here_low : z.here.low ≡ low f (part_of h)
      here_low = z.at_low

      here_high : z.here.high ≡ low f (part_of h) +ℤ tall_of plan kit (part_of h)
      here_high = subst (λ (p : Storey). z.here.high ≡ low f p +ℤ tall_of plan kit p) zone_part pair.high_here

      up_is : z.alike.down ≡ low g (part_of h) -ℤ low f (part_of h)
      up_is = go z.alike.down (low f (part_of h)) (low g (part_of h)) z.here.low z.there.low here_low (subst (λ (p : Storey). z.there.low ≡ low g p) zone_part pair.low_there) pair.moved.low where
        go : (d l k a c : ℤ) → a ≡ l → c ≡ k → c ≡ a +ℤ d → d ≡ k -ℤ l
        go d l k a c p r s = omega (arith, ints, p, r, s)

      -- the bank of its joiners is the joiner's
      bank_is : joiner.rect.x1 ≤ℤ x → x <ℤ joiner.rect.x2 → (j : ℕ) → bank_x f j f.row_x ≤ℤ z.here.left → z.here.right ≤ℤ bank_x f j (columns_end plan kit f) → b ≡ j
      bank_is from_x to_x j a c =
          let y = joiner.rect.y1 in
          let inside = in_part plan kit wire tracks f m h (inr is_joiner.has) in
          let r = unit_rect x y in
          same_bank plan other kit wire tracks many f g m n reach z.alike.left z.alike.down z.here z.there pair (pos 0) r.0 (above wire.space m.laid.sizes.space.from) (above reach short.some)
          (unit_near z.here x y (record {
            left = z.left;
            right = z.right;
            low = let e = is_joiner.at.low in let l = here_low in let i = inside.from in omega (arith, ints, e, l, i);
            high = let e = is_joiner.at.low in let l = here_high in let i = inside.to in omega (arith, ints, e, l, i, one);
          }) r.0 r.1 r.2 r.3 r.4)
          joiner b h is_joiner (unit_overlaps joiner.rect r.0 x y (record { left = from_x; right = to_x; low = same_le y; high = joiner.rect.tall }) r.1 r.2 r.3 r.4) j a c
        where
          above : (s : ℤ) → pos 1 ≤ℤ s → pos 0 ≤ℤ s
          above s some = omega (arith, ints, some)

          same_le : (z : ℤ) → z ≤ℤ z
          same_le z = omega (arith, ints)

      cell_moves : (y : ℤ) → joiner.rect.x1 ≤ℤ x → x <ℤ joiner.rect.x2 → bar.rect.x1 ≤ℤ x → low f (part_of h) ≤ℤ y → y <ℤ (low f (part_of h) +ℤ tall_of plan kit (part_of h))
          → ((u v : ℤ) → v ≡ y -ℤ up → joiner2.rect.x1 ≤ℤ u → u <ℤ joiner2.rect.x2 → bar2.rect.x1 ≤ℤ u → u <ℤ bar2.rect.x2 → HasCellInSome (rects_on metal from) u v) → HasCellInSome (rects_on metal to) x y
      cell_moves y from_x to_x bar_x from_y to_y covered =
          let j = pair.joiners h is_joiner.has zone_part in
          let e : b ≡ j.bank = bank_is from_x to_x j.bank j.from_here j.to_here in
          let ex = z.alike.left in
          let u = x +ℤ ex in
          let v = y +ℤ z.alike.down in
          let s = pair.moved in
          let start = there_from reach ex z.here.left z.there.left (bank_x f j.bank (bar_begin plan kit f h)) (bank_x g j.bank (bar_begin other kit g h)) x short.some j.left s.left (subst (λ (k : ℕ). bank_x f k (bar_begin plan kit f h) ≤ℤ x) e (subst (λ (w : ℤ). w ≤ℤ x) is_joiner.left from_x)) z.left in
          let end = there_to reach ex z.here.right z.there.right (bank_x f j.bank (columns_end plan kit f)) (bank_x g j.bank (columns_end other kit g)) x short.some j.right s.right (subst (λ (k : ℕ). x <ℤ bank_x f k (columns_end plan kit f)) e (subst (λ (w : ℤ). x <ℤ w) is_joiner.right to_x)) z.right in
          let bar_start = there_from reach ex z.here.left z.there.left (bar_begin plan kit f q) (bar_begin other kit g q) x short.some (pair.bars q (zone_part ∙ part)) s.left (subst (λ (w : ℤ). w ≤ℤ x) is_bar.left bar_x) z.left in
          let bar_end = there_end wire.space ex z.here.right z.there.right (trunk_x other kit wire g) wire.width (trunk_by other kit wire g (is_power q)) x pair.end_there (trunks other kit wire many g n (is_power q)) m.laid.sizes.space.from one s.right z.right in
          let has = covered u v (height y)
          (subst (λ (w : ℤ). w ≤ℤ u) (sym is_joiner2.left) (subst (λ (k : ℕ). bank_x g k (bar_begin other kit g h) ≤ℤ u) (sym e) start))
          (subst (λ (w : ℤ). u <ℤ w) (sym is_joiner2.right) (subst (λ (k : ℕ). u <ℤ bank_x g k (columns_end other kit g)) (sym e) end))
          (subst (λ (w : ℤ). w ≤ℤ u) (sym is_bar2.left) bar_start)
          (subst (λ (w : ℤ). u <ℤ w) (sym is_bar2.right) bar_end) in
          let inside : IsCellOf z.there u v = record {
            left = let a = s.left in let c = z.left in omega (arith, ints, a, c);
            right = let a = s.right in let c = z.right in omega (arith, ints, a, c);
            low = let a = s.low in let c = here_low in omega (arith, ints, a, c, from_y);
            high = let a = s.high in let c = here_high in omega (arith, ints, a, c, to_y);
          } in
          let here = cell_covers Flat plan other kit (Alike bit) wire tracks many f g m n insides listed from to has_from has_to reach short.some z.here z.there z.alike pair u v inside has in
          subst (λ (w : ℤ). HasCellInSome (rects_on metal to) w y) (around x ex z.alike.right z.alike.back_x) (subst (HasCellInSome (rects_on metal to) (u +ℤ z.alike.right)) (around y z.alike.down z.alike.up z.alike.back_y) here)
        where
          around : (x e d : ℤ) → d +ℤ e ≡ pos 0 → (x +ℤ e) +ℤ d ≡ x
          around x e d is = omega (arith, ints, is)

          height : (y : ℤ) → y +ℤ z.alike.down ≡ y -ℤ up
          height y = let e = up_is in go y z.alike.down (low f (part_of h)) (low g (part_of h)) e where
            go : (y d l k : ℤ) → d ≡ k -ℤ l → y +ℤ d ≡ y -ℤ (l -ℤ k)
            go y d l k e = omega (arith, ints, e)

    pair_of : (x : ℤ) (z : HasZoneAt reach plan other kit bit f g (low f (part_of h)) x) → ArePaired plan other kit wire f g reach z.alike.left z.alike.down z.here z.there
    pair_of x z = kinds_are_paired plan other kit wire tracks many f g m n reach short same z.alike.left z.alike.down z.here z.there (zone_back z.alike.right z.alike.up z.alike.left z.alike.down z.there z.here z.alike.back_x z.alike.back_y z.alike.same) z.kind

    place_moves : (x y : ℤ) → joiner.rect.x1 ≤ℤ x → x <ℤ joiner.rect.x2 → bar.rect.x1 ≤ℤ x → low f (part_of h) ≤ℤ y → y <ℤ (low f (part_of h) +ℤ tall_of plan kit (part_of h))
        → ((u v : ℤ) → v ≡ y -ℤ up → joiner2.rect.x1 ≤ℤ u → u <ℤ joiner2.rect.x2 → bar2.rect.x1 ≤ℤ u → u <ℤ bar2.rect.x2 → HasCellInSome (rects_on metal from) u v) → HasCellInSome (rects_on metal to) x y
    place_moves x y from_x to_x bar_x from_y to_y covered =
        let z = zone_for h is_joiner.has b is_joiner.below x (subst (λ (w : ℤ). w ≤ℤ x) is_joiner.left from_x) (subst (λ (w : ℤ). x <ℤ w) is_joiner.right to_x) in
        cell_moves x z (pair_of x z) y from_x to_x bar_x from_y to_y covered

    bar_part : LiesInPart plan kit wire tracks f m q
    bar_part = in_part plan kit wire tracks f m q (inl is_bar.has)

    joiner_part : LiesInPart plan kit wire tracks f m h
    joiner_part = in_part plan kit wire tracks f m h (inr is_joiner.has)

    bar_low : bar.rect.y1 ≡ low f (part_of h) +ℤ rise_of plan kit wire q
    bar_low = subst (λ (p : Storey). bar.rect.y1 ≡ low f p +ℤ rise_of plan kit wire q) (sym part) is_bar.at.low

    bar_high : bar.rect.y2 ≡ (low f (part_of h) +ℤ rise_of plan kit wire q) +ℤ wire.width
    bar_high = subst (λ (p : Storey). bar.rect.y2 ≡ (low f p +ℤ rise_of plan kit wire q) +ℤ wire.width) (sym part) is_bar.at.high

    bar_to : (rise_of plan kit wire q +ℤ wire.width) ≤ℤ tall_of plan kit (part_of h)
    bar_to = subst (λ (p : Storey). (rise_of plan kit wire q +ℤ wire.width) ≤ℤ tall_of plan kit p) (sym part) bar_part.to

    up_joiner : IsUp up joiner2.rect joiner.rect
    up_joiner = up_height plan other kit wire f g same h joiner joiner2 is_joiner.at is_joiner2.at

    up_bar : IsUp up bar2.rect bar.rect
    up_bar = subst (λ (p : Storey). IsUp (low f p -ℤ low g p) bar2.rect bar.rect) (sym part) (up_height plan other kit wire f g same q bar bar2 is_bar.at is_bar2.at)

    -- a height above what begins the gap there and below what ends it
    over_low : (a c y v : ℤ) → a ≡ c +ℤ up → a ≤ℤ y → v ≡ y -ℤ up → c ≤ℤ v
    over_low a c y v e le is = omega (arith, ints, e, le, is)

    under_high : (a c y v : ℤ) → a ≡ c +ℤ up → y <ℤ a → v ≡ y -ℤ up → v <ℤ c
    under_high a c y v e lt is = omega (arith, ints, e, lt, is)

    pub joiner_below : Fills metal from to joiner.rect bar.rect joiner2.rect bar2.rect
    joiner_below covered x y i =
        place_moves x y i.left_a i.right_a i.left_b
        (let l = is_joiner.at.high in let r = joiner_part.from in let t = i.low in omega (arith, ints, l, r, t, one))
        (let l = bar_low in let r = bar_to in let t = i.high in omega (arith, ints, l, r, t, one))
        (λ u v is a c d e. covered u v (record { left_a = a; right_a = c; left_b = d; right_b = e; low = over_low joiner.rect.y2 joiner2.rect.y2 y v up_joiner.high i.low is; high = under_high bar.rect.y1 bar2.rect.y1 y v up_bar.low i.high is }))

    pub joiner_above : Fills metal from to bar.rect joiner.rect bar2.rect joiner2.rect
    joiner_above covered x y i =
        place_moves x y i.left_b i.right_b i.left_a
        (let l = bar_high in let r = bar_part.from in let t = i.low in omega (arith, ints, l, r, t, one))
        (let l = is_joiner.at.low in let r = joiner_part.to in let t = i.high in omega (arith, ints, l, r, t, one))
        (λ u v is a c d e. covered u v (record { left_a = d; right_a = e; left_b = a; right_b = c; low = over_low bar.rect.y2 bar2.rect.y2 y v up_bar.high i.low is; high = under_high joiner.rect.y1 joiner2.rect.y1 y v up_joiner.low i.high is }))

    not_logic : LogicRow ≡ part_of q → ⊥
    not_logic e = no_joiner h is_joiner.has (e ∙ sym part)

    pub joiner_stacked : 0 < columns_of plan * bit_width kit → 0 < columns_of other * bit_width kit → AreStacked joiner.rect bar.rect joiner2.rect bar2.rect
    joiner_stacked some some2 = record {
      x = last_unit plan kit wire tracks f m some b;
      here_a = joiner_spans plan kit wire tracks f m some b h joiner is_joiner;
      here_b = bar_spans plan kit wire tracks f m some b q bar is_joiner.below not_logic is_bar;
      z = last_unit other kit wire many g n some2 b;
      there_c = joiner_spans other kit wire many g n some2 b h joiner2 is_joiner2;
      there_d = bar_spans other kit wire many g n some2 b q bar2 is_joiner2.below not_logic is_bar2;
      up = up;
      up_a = up_joiner;
      up_b = up_bar;
    }
