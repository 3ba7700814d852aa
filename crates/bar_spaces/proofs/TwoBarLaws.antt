-- Between two bars of a part, what is covered in a window is covered in the memory.
use Rattle.std.proofs.Common.{◌≡◌, inl, inr, ◌∙◌, ℕ, Bool, true, false, ℤ, pos, ◌+ℤ◌, ◌-ℤ◌, ◌*ℤ◌, ◌≤ℤ◌, ◌<ℤ◌, List, refl, sym, subst, arith}
use Rattle.std.specs.Prelude.{Contains, slice_index}
use Rattle.std.specs.Int.{int_max}
use Rattle.std.proofs.lemmas.Int.{ints, clamps}
use Rattle.or_geom.specs.declared.shape.Rect.{Rect}
use Rattle.or_geom.specs.declared.shape.Shape.{Shape}
use Rattle.or_geom.specs.Covered.{HasCell, HasCellInSome}
use Rattle.or_geom.proofs.CoverLaws.{cell_among}
use Rattle.shape_bins.specs.Layers.{rects_on}
use Rattle.shape_bins.proofs.CoverLaws.{on_rects, shape_over, IsShapeOver}
use Rattle.tech_rules.specs.declared.tech.Wire.{Wire}
use Rattle.wire_drawing.specs.Drawing.{pitch}
use Rattle.cell_builder.specs.Flat.{IsShapeTaken}
use Rattle.sram_netlist.specs.Organization.{Organization}
use Rattle.sram_netlist.specs.BitCells.{BitCells}
use Rattle.macro_layout.specs.LayoutKit.{LayoutKit}
use Rattle.macro_layout.specs.Places.{Floorplan}
use Rattle.macro_layout.specs.Floorplan.{Tracks}
use Rattle.macro_layout.specs.Layout.{IsOfLeaf}
use Rattle.macro_layout.specs.Wires.{trunk_x, columns_end}
use Rattle.good_places.specs.Beside.{HaveOneLeftPart}
use Rattle.good_places.specs.Leaves.{Zone, zone_of, LiesNear, HasLeavesAndWires}
use Rattle.leaf_shapes.specs.Outline.{IsWireLayer}
use Rattle.good_places.proofs.LaidLaws.{in_zone}
use Rattle.good_wires.specs.Drawn.{IsDrawnMemory, IsDrawnWire}
use Rattle.good_wires.specs.Kept.{AllDrawInside}
use Rattle.good_wires.proofs.ClearLaws.{ZoneKind, IsBankZone, zone_kind}
use Rattle.supply_bars.specs.Heights.{Storey, Height, part_of, low, bar_begin, trunk_by, is_power, IsBarAlong, IsJoinerAlong}
use Rattle.supply_bars.proofs.HeightLaws.{on_metal, a_bar}
use Rattle.supply_bars.proofs.PartLaws.{rise_of, tall_of, same_rise, same_tall, same_bars, in_part, parts, begins, trunks, banks_end, bar_wide, inner_begins}
use Rattle.bar_spaces.proofs.OverLaws.{Fills, SpansUnit, AreStacked}
use Rattle.supply_bars.proofs.BarLaws.{IsUp, up_height}

module _ (Flat : List ℕ → Shape → Type 0) (plan : Organization) (kit : LayoutKit) (bits : BitCells) (wire : Wire) (tracks : Tracks) (f : Floorplan) (m : IsDrawnMemory plan kit wire tracks f) (insides : AllDrawInside wire Flat plan kit bits) where
  -- the zones end a space before the trunk
  zone_right : (z : Zone) → ZoneKind plan kit wire tracks f m z → (z.right +ℤ wire.space) ≤ℤ trunk_x plan kit wire f
  zone_right z kind = elim kind [
    | inl upper ↦ bank upper.0 upper.1
    | inr rest ↦ elim rest [
      | inl slices ↦ bank slices.0 slices.1
      | inr logic ↦ logic.2
    ]
  ] where
    bank : (b : ℕ) → IsBankZone plan kit wire tracks f m b z → (z.right +ℤ wire.space) ≤ℤ trunk_x plan kit wire f
    bank b i = let e = banks_end plan kit wire tracks f m b i.below in let r = i.right in omega (arith, ints, e, r)

  pub leaf_inside : (layer : ℕ) → IsWireLayer wire layer → (s : Shape) → s.layer ≡ layer → (o : IsOfLeaf plan kit bits f IsShapeTaken Flat s) → LiesNear (pos 0) (zone_of plan kit f o.leaf o.place) s.rect
  leaf_inside layer of s on o = in_zone plan kit wire f (pos 0) m.laid o.leaf o.place o.taken.inner s o.has o.stands (insides o.leaf o.taken.inner o.has o.taken.has (subst (IsWireLayer wire) (sym on ∙ o.taken.moved.layer) of)) o.taken.moved

  pub leaf_ends : (layer : ℕ) → IsWireLayer wire layer → (s : Shape) → s.layer ≡ layer → (o : IsOfLeaf plan kit bits f IsShapeTaken Flat s) → (s.rect.x2 +ℤ wire.space) ≤ℤ trunk_x plan kit wire f
  leaf_ends layer of s on o =
      let l = leaf_inside layer of s on o in
      let r = l.right in
      let z = zone_right (zone_of plan kit f o.leaf o.place) (zone_kind plan kit wire tracks f m o.leaf o.place o.has o.stands) in
      omega (arith, ints, r, z)

  pub joiner_ends : (b : ℕ) (h : Height) (s : Shape) → IsJoinerAlong plan kit wire f b h s → (s.rect.x2 +ℤ wire.space) ≤ℤ trunk_x plan kit wire f
  joiner_ends b h s j = let e = banks_end plan kit wire tracks f m b j.below in let r = j.right in let w = m.stands.bank_width in go s.rect.x2 (columns_end plan kit f) f.bank_width (pos b *ℤ f.bank_width) (trunk_x plan kit wire f) r w e where
    go : (x e w q t : ℤ) → x ≡ e +ℤ q → w ≡ e → ((w +ℤ q) +ℤ wire.space) ≤ℤ t → (x +ℤ wire.space) ≤ℤ t
    go x e w q t a c d = omega (arith, ints, a, c, d)

-- how far right of the power trunk
abbrev pub trunk_shift : Wire → Bool → ℤ
trunk_shift wire true = pos 0
trunk_shift wire false = pitch wire

pub trunk_is : (plan : Organization) (kit : LayoutKit) (wire : Wire) (f : Floorplan) (p : Bool) → trunk_by plan kit wire f p ≡ trunk_x plan kit wire f +ℤ trunk_shift wire p
trunk_is plan kit wire f true = none (trunk_x plan kit wire f) where
  none : (z : ℤ) → z ≡ z +ℤ pos 0
  none z = omega (arith, ints)
trunk_is plan kit wire f false = refl

module _ (Flat : List ℕ → Shape → Type 0) (plan other : Organization) (kit : LayoutKit) (bits : BitCells) (wire : Wire) (tracks many : Tracks) (f g : Floorplan) (m : IsDrawnMemory plan kit wire tracks f) (n : IsDrawnMemory other kit wire many g) (same : HaveOneLeftPart plan other) (insides : AllDrawInside wire Flat other kit bits) (listed : Contains wire.metals (slice_index wire.metals 0))
    (from to : List Shape) (has_from : HasLeavesAndWires (slice_index wire.metals 0) Flat other kit bits g (IsDrawnWire other kit wire many g) from) (has_to : HasLeavesAndWires (slice_index wire.metals 0) Flat plan kit bits f (IsDrawnWire plan kit wire tracks f) to) where
  abbrev metal : ℕ
  metal = slice_index wire.metals 0

  one : pos 1 ≤ℤ wire.width
  one = m.laid.sizes.width.from

  some : pos 1 ≤ℤ wire.space
  some = m.laid.sizes.space.from

  module _ (h k : Height) (a b c d : Shape) (bar_a : IsBarAlong plan kit wire f h a) (bar_b : IsBarAlong plan kit wire f k b) (bar_c : IsBarAlong other kit wire g h c) (bar_d : IsBarAlong other kit wire g k d) (part : part_of h ≡ part_of k) where
    -- how much further up the part stands
    abbrev up : ℤ
    up = low f (part_of h) -ℤ low g (part_of h)

    -- the place in the window that stands for x
    abbrev there_x : ℤ → ℤ
    there_x x = trunk_x other kit wire g +ℤ int_max (pos 0) (x -ℤ trunk_x plan kit wire f)

    reaches : (p : Bool) (x : ℤ) → x <ℤ (trunk_by plan kit wire f p +ℤ wire.width) → there_x x <ℤ (trunk_by other kit wire g p +ℤ wire.width)
    reaches p x lt = go (trunk_x plan kit wire f) (trunk_x other kit wire g) (trunk_by plan kit wire f p) (trunk_by other kit wire g p) (trunk_shift wire p) wire.width x (trunk_is plan kit wire f p) (trunk_is other kit wire g p) (trunks other kit wire many g n p) one lt where
      go : (t u v w s l x : ℤ) → v ≡ t +ℤ s → w ≡ u +ℤ s → u ≤ℤ w → pos 1 ≤ℤ l → x <ℤ (v +ℤ l) → (u +ℤ int_max (pos 0) (x -ℤ t)) <ℤ (w +ℤ l)
      go t u v w s l x p q le some lt = omega (arith, ints, clamps, p, q, le, some, lt)

    reaches_back : (p : Bool) (x : ℤ) → there_x x <ℤ (trunk_by other kit wire g p +ℤ wire.width) → x <ℤ (trunk_by plan kit wire f p +ℤ wire.width)
    reaches_back p x lt = go (trunk_x plan kit wire f) (trunk_x other kit wire g) (trunk_by plan kit wire f p) (trunk_by other kit wire g p) (trunk_shift wire p) wire.width x (trunk_is plan kit wire f p) (trunk_is other kit wire g p) lt where
      go : (t u v w s l x : ℤ) → v ≡ t +ℤ s → w ≡ u +ℤ s → (u +ℤ int_max (pos 0) (x -ℤ t)) <ℤ (w +ℤ l) → x <ℤ (v +ℤ l)
      go t u v w s l x p q lt = omega (arith, ints, clamps, p, q, lt)

    begins_there : (x : ℤ) (q : Height) → bar_begin other kit g q ≤ℤ there_x x
    begins_there x q = let e = begins other kit wire many g n q in go (bar_begin other kit g q) (trunk_x other kit wire g) (x -ℤ trunk_x plan kit wire f) wire.space e some where
      go : (b t x s : ℤ) → (b +ℤ s) ≤ℤ t → pos 1 ≤ℤ s → b ≤ℤ (t +ℤ int_max (pos 0) x)
      go b t x s e p = omega (arith, ints, clamps, e, p)

    up_bar : (q : Height) → part_of h ≡ part_of q → (s t : Shape) → IsBarAlong plan kit wire f q s → IsBarAlong other kit wire g q t → IsUp up t.rect s.rect
    up_bar q at s t p r = subst (λ (part : Storey). IsUp (low f part -ℤ low g part) t.rect s.rect) (sym at) (up_height plan other kit wire f g same q s t p.at r.at)

    pub bars_stacked : AreStacked a.rect b.rect c.rect d.rect
    bars_stacked = record {
      x = trunk_x plan kit wire f;
      here_a = spans plan tracks f m a.rect h bar_a.left bar_a.right;
      here_b = spans plan tracks f m b.rect k bar_b.left bar_b.right;
      z = trunk_x other kit wire g;
      there_c = spans other many g n c.rect h bar_c.left bar_c.right;
      there_d = spans other many g n d.rect k bar_d.left bar_d.right;
      up = up;
      up_a = up_bar h refl a c bar_a bar_c;
      up_b = up_bar k part b d bar_b bar_d;
    } where
      spans : (one : Organization) (t : Tracks) (e : Floorplan) → IsDrawnMemory one kit wire t e → (r : Rect) (q : Height) → r.x1 ≡ bar_begin one kit e q → r.x2 ≡ trunk_by one kit wire e (is_power q) +ℤ wire.width → SpansUnit r (trunk_x one kit wire e)
      spans one t e mem r q left right =
          let p = begins one kit wire t e mem q in
          let u = trunks one kit wire t e mem (is_power q) in
          let w = m.laid.sizes.width.from in
          let v = m.laid.sizes.space.from in
          record { left = omega (arith, ints, left, p, v); right = omega (arith, ints, right, u, w) }

    d_low : d.rect.y1 ≡ low g (part_of h) +ℤ rise_of other kit wire k
    d_low = subst (λ (p : Storey). d.rect.y1 ≡ low g p +ℤ rise_of other kit wire k) (sym part) bar_d.at.low

    k_to : (rise_of other kit wire k +ℤ wire.width) ≤ℤ tall_of other kit (part_of h)
    k_to = subst (λ (p : Storey). (rise_of other kit wire k +ℤ wire.width) ≤ℤ tall_of other kit p) (sym part) (in_part other kit wire many g n k (inl bar_d.has)).to

    -- a bar at a height between the two is of their part
    part_is : (v : ℤ) (q : Height) (t : Shape) → IsBarAlong other kit wire g q t → c.rect.y2 ≤ℤ v → v <ℤ d.rect.y1 → t.rect.y1 ≤ℤ v → v <ℤ t.rect.y2 → part_of h ≡ part_of q
    part_is v q t bar over under low_t high_t = elim (parts other kit wire many g n (part_of h) (part_of q)) [
      | inl at ↦ at
      | inr apart ↦ elim apart [
        | inl below ↦
            let i = (in_part other kit wire many g n q (inl bar.has)).from in
            absurd (go_up (low g (part_of h)) (low g (part_of q)) (tall_of other kit (part_of h)) (rise_of other kit wire k) (rise_of other kit wire q) d.rect.y1 t.rect.y1 d_low bar.at.low k_to i below under low_t)
        | inr above ↦
            let i = (in_part other kit wire many g n q (inl bar.has)).to in
            let j = (in_part other kit wire many g n h (inl bar_c.has)).from in
            absurd (go_down (low g (part_of h)) (low g (part_of q)) (tall_of other kit (part_of q)) (rise_of other kit wire h) (rise_of other kit wire q) c.rect.y2 t.rect.y2 bar_c.at.high bar.at.high i j above over high_t)
      ]
    ] where
      go_up : (p q tl r s y1 t1 : ℤ) → y1 ≡ p +ℤ r → t1 ≡ q +ℤ s → (r +ℤ wire.width) ≤ℤ tl → pos 0 ≤ℤ s → ((p +ℤ tl) +ℤ wire.space) ≤ℤ q → v <ℤ y1 → t1 ≤ℤ v → ⊥
      go_up p q tl r s y1 t1 e1 e2 i1 i2 b u l = omega (arith, ints, e1, e2, i1, i2, b, u, l, one, some)

      go_down : (p q tl r s y2 t2 : ℤ) → y2 ≡ (p +ℤ r) +ℤ wire.width → t2 ≡ (q +ℤ s) +ℤ wire.width → (s +ℤ wire.width) ≤ℤ tl → pos 0 ≤ℤ r → ((q +ℤ tl) +ℤ wire.space) ≤ℤ p → y2 ≤ℤ v → v <ℤ t2 → ⊥
      go_down p q tl r s y2 t2 e1 e2 i1 i2 b u l = omega (arith, ints, e1, e2, i1, i2, b, u, l, one, some)

    -- so its like covers the same here
    bar_fills : (x y v : ℤ) (q : Height) (t : Shape) → y ≡ v +ℤ up → IsBarAlong other kit wire g q t → c.rect.y2 ≤ℤ v → v <ℤ d.rect.y1 → HasCell t.rect (there_x x) v → a.rect.x1 ≤ℤ x → HasCellInSome (rects_on metal to) x y
    bar_fills x y v q t is bar over under cell left =
        let at = part_is v q t bar over under cell.low cell.high in
        let has = same_bars other plan q (record { groups = sym same.groups; col_bits = sym same.col_bits; bank_bits = sym same.bank_bits }) bar.has in
        let e = a_bar plan kit wire tracks f m q has (bar_wide plan kit wire tracks f m q) in
        let i = up_bar q at e.0 t e.3 bar in
        let begun = inner_begins plan kit wire tracks f m h q has (sym at) (rises at) (falls at) in
        cell_among (rects_on metal to) e.0.rect x y (on_rects metal to e.0 ((has_to e.0 e.2).1 (inl e.1)) e.2) (record {
          left = let p = e.3.left in let r = bar_a.left in omega (arith, ints, p, r, begun, left);
          right = let p = e.3.right in let r = reaches_back (is_power q) x (subst (λ (z : ℤ). there_x x <ℤ z) bar.right cell.right) in omega (arith, ints, p, r);
          low = let p = i.low in let r = cell.low in omega (arith, ints, p, r, is);
          high = let p = i.high in let r = cell.high in omega (arith, ints, p, r, is);
        })
      where
        rise_is : rise_of plan kit wire q ≡ rise_of other kit wire q
        rise_is = sym (same_rise plan other kit wire q same)

        q_low : part_of h ≡ part_of q → t.rect.y1 ≡ low g (part_of h) +ℤ rise_of other kit wire q
        q_low at = subst (λ (p : Storey). t.rect.y1 ≡ low g p +ℤ rise_of other kit wire q) (sym at) bar.at.low

        q_high : part_of h ≡ part_of q → t.rect.y2 ≡ (low g (part_of h) +ℤ rise_of other kit wire q) +ℤ wire.width
        q_high at = subst (λ (p : Storey). t.rect.y2 ≡ (low g p +ℤ rise_of other kit wire q) +ℤ wire.width) (sym at) bar.at.high

        rises : part_of h ≡ part_of q → pos 0 <ℤ rise_of plan kit wire q
        rises at =
            let j = (in_part other kit wire many g n h (inl bar_c.has)).from in
            go (low g (part_of h)) (rise_of other kit wire h) (rise_of other kit wire q) (rise_of plan kit wire q) c.rect.y2 t.rect.y2 bar_c.at.high (q_high at) j rise_is over cell.high
          where
            go : (p r s z y2 t2 : ℤ) → y2 ≡ (p +ℤ r) +ℤ wire.width → t2 ≡ (p +ℤ s) +ℤ wire.width → pos 0 ≤ℤ r → z ≡ s → y2 ≤ℤ v → v <ℤ t2 → pos 0 <ℤ z
            go p r s z y2 t2 e1 e2 i e b u = omega (arith, ints, e1, e2, i, e, b, u)

        falls : part_of h ≡ part_of q → (rise_of plan kit wire q +ℤ wire.width) <ℤ tall_of plan kit (part_of q)
        falls at =
            subst (λ (p : Storey). (rise_of plan kit wire q +ℤ wire.width) <ℤ tall_of plan kit p) at
            (go (low g (part_of h)) (rise_of other kit wire k) (rise_of other kit wire q) (rise_of plan kit wire q) (tall_of other kit (part_of h)) (tall_of plan kit (part_of h)) d.rect.y1 t.rect.y1 d_low (q_low at) k_to rise_is (same_tall plan other kit (part_of h) same) under cell.low)
          where
            go : (p r s z tl tm y1 t1 : ℤ) → y1 ≡ p +ℤ r → t1 ≡ p +ℤ s → (r +ℤ wire.width) ≤ℤ tl → z ≡ s → tl ≡ tm → v <ℤ y1 → t1 ≤ℤ v → (z +ℤ wire.width) <ℤ tm
            go p r s z tl tm y1 t1 e1 e2 i e d b u = omega (arith, ints, e1, e2, i, e, d, b, u)

    -- what is covered between them in the window is covered between them here
    pub bars_fill : Fills metal from to a.rect b.rect c.rect d.rect
    bars_fill covered x y i =
        let u = there_x x in
        let v = y -ℤ up in
        let under = let p = (up_bar h refl a c bar_a bar_c).high in let q = i.low in go_low a.rect.y2 c.rect.y2 up y p q in
        let over = let p = (up_bar k part b d bar_b bar_d).low in let q = i.high in go_high b.rect.y1 d.rect.y1 up y p q in
        let s = shape_over metal from u v (covered u v (record {
          left_a = let e = bar_c.left in let p = begins_there x h in omega (arith, ints, e, p);
          right_a = let e = bar_c.right in let p = reaches (is_power h) x (subst (λ (z : ℤ). x <ℤ z) bar_a.right i.right_a) in omega (arith, ints, e, p);
          left_b = let e = bar_d.left in let p = begins_there x k in omega (arith, ints, e, p);
          right_b = let e = bar_d.right in let p = reaches (is_power k) x (subst (λ (z : ℤ). x <ℤ z) bar_b.right i.right_b) in omega (arith, ints, e, p);
          low = under;
          high = over;
        })) in
        by s under over
      where
        go_low : (a c up y : ℤ) → a ≡ c +ℤ up → a ≤ℤ y → c ≤ℤ (y -ℤ up)
        go_low a c up y e le = omega (arith, ints, e, le)

        go_high : (b d up y : ℤ) → b ≡ d +ℤ up → y <ℤ b → (y -ℤ up) <ℤ d
        go_high b d up y e le = omega (arith, ints, e, le)

        back : (y up : ℤ) → y ≡ (y -ℤ up) +ℤ up
        back y up = omega (arith, ints)

        past : (x2 t s z : ℤ) → (x2 +ℤ s) ≤ℤ t → pos 1 ≤ℤ s → (t +ℤ int_max (pos 0) z) <ℤ x2 → ⊥
        past x2 t s z le one lt = omega (arith, ints, clamps, le, one, lt)

        by : IsShapeOver metal from (there_x x) (y -ℤ up) → c.rect.y2 ≤ℤ (y -ℤ up) → (y -ℤ up) <ℤ d.rect.y1 → HasCellInSome (rects_on metal to) x y
        by s under over = elim ((has_from s.shape s.on).0 s.there) [
          | inr o ↦ absurd (past s.shape.rect.x2 (trunk_x other kit wire g) wire.space (x -ℤ trunk_x plan kit wire f) (leaf_ends Flat other kit bits wire many g n insides metal (inl listed) s.shape s.on o) some s.holds.right)
          | inl wired ↦ elim (on_metal other kit wire many g n s.shape s.on wired) [
            | inr joiner ↦ absurd (past s.shape.rect.x2 (trunk_x other kit wire g) wire.space (x -ℤ trunk_x plan kit wire f) (joiner_ends Flat other kit bits wire many g n insides joiner.0 joiner.1 s.shape joiner.2) some s.holds.right)
            | inl bar ↦ bar_fills x y (y -ℤ up) bar.0 s.shape (back y up) bar.1 under over s.holds i.left_a
          ]
        ]
