-- Two cuts from bars to the supply trunks keep the wires' space, or stand one over the other as two do in a window.
use Rattle.std.proofs.Common.{◌≡◌, ◌⊎◌, inl, inr, ◌∙◌, ℕ, Bool, true, false, ℤ, pos, ◌+ℤ◌, ◌-ℤ◌, ◌≤ℤ◌, ◌<ℤ◌, List, refl, sym, ap, subst, arith}
use Rattle.std.specs.Prelude.{slice_index}
use Rattle.std.proofs.lemmas.Int.{ints}
use Rattle.or_geom.specs.declared.shape.Shape.{Shape}
use Rattle.or_geom.specs.Covered.{HasCell, HasCellInSome}
use Rattle.or_geom.proofs.CoverLaws.{cell_among}
use Rattle.shape_bins.specs.Layers.{rects_on}
use Rattle.shape_bins.proofs.CoverLaws.{on_rects, shape_over, IsShapeOver}
use Rattle.tech_rules.specs.declared.tech.Wire.{Wire}
use Rattle.wire_drawing.specs.Drawing.{pitch}
use Rattle.tech_rules.specs.WireRules.{margin}
use Rattle.tech_rules.proofs.WireLaws.{two_margins, margin_positive}
use Rattle.sram_netlist.specs.Organization.{Organization}
use Rattle.sram_netlist.specs.BitCells.{BitCells}
use Rattle.macro_layout.specs.LayoutKit.{LayoutKit}
use Rattle.macro_layout.specs.Places.{Floorplan}
use Rattle.macro_layout.specs.Floorplan.{Tracks}
use Rattle.macro_layout.specs.Wires.{trunk_x}
use Rattle.good_places.specs.Beside.{HaveOneLeftPart}
use Rattle.good_places.specs.Leaves.{HasLeavesAndWires}
use Rattle.leaf_shapes.specs.Outline.{IsWireLayer}
use Rattle.good_wires.specs.Spaced.{AreSpaced}
use Rattle.good_wires.specs.Drawn.{IsDrawnMemory, IsDrawnWire}
use Rattle.good_wires.specs.Kept.{AllDrawInside}
use Rattle.supply_bars.specs.Heights.{Storey, Height, part_of, low, trunk_by, is_power, IsCutAlong}
use Rattle.supply_bars.proofs.HeightLaws.{on_cut, a_cut}
use Rattle.supply_bars.proofs.PartLaws.{rise_of, tall_of, same_rise, same_bars, in_part, parts, trunks}
use Rattle.supply_bars.proofs.BarLaws.{IsUp}
use Rattle.bar_spaces.proofs.OverLaws.{Fills, SpansUnit, AreStacked}
use Rattle.bar_spaces.proofs.TwoBarLaws.{leaf_ends}

module _ (plan : Organization) (kit : LayoutKit) (wire : Wire) (tracks : Tracks) (f : Floorplan) (m : IsDrawnMemory plan kit wire tracks f) where
  -- a cut lies in its part
  pub record CutLies (h : Height) (s : Shape) : Type 0 where
    pub from : low f (part_of h) ≤ℤ s.rect.y1
    pub to : s.rect.y2 ≤ℤ (low f (part_of h) +ℤ tall_of plan kit (part_of h))

  pub cut_lies : (h : Height) (s : Shape) → IsCutAlong plan kit wire f h s → CutLies h s
  cut_lies h s c =
      let i = in_part plan kit wire tracks f m h (inl c.has) in
      let from = i.from in
      let to = i.to in
      let a = c.via.low in
      let b = c.via.high in
      let two = two_margins wire m.laid.sizes in
      let one = margin_positive wire m.laid.sizes in
      record { from = omega (arith, ints, from, a, one); to = omega (arith, ints, to, b, two, one) }

  -- cuts of one trunk, or apart
  trunk_cases : (p q : Bool) → (p ≡ q) ⊎ (((trunk_by plan kit wire f p +ℤ pitch wire) ≤ℤ trunk_by plan kit wire f q) ⊎ ((trunk_by plan kit wire f q +ℤ pitch wire) ≤ℤ trunk_by plan kit wire f p))
  trunk_cases true true = inl refl
  trunk_cases true false = inr (inl (same (trunk_x plan kit wire f +ℤ pitch wire))) where
    same : (z : ℤ) → z ≤ℤ z
    same z = omega (arith, ints)
  trunk_cases false true = inr (inr (same (trunk_x plan kit wire f +ℤ pitch wire))) where
    same : (z : ℤ) → z ≤ℤ z
    same z = omega (arith, ints)
  trunk_cases false false = inl refl

  pub cuts_or_apart : (h k : Height) (a b : Shape) → IsCutAlong plan kit wire f h a → IsCutAlong plan kit wire f k b → ((part_of h ≡ part_of k) × (is_power h ≡ is_power k)) ⊎ AreSpaced wire.space a.rect b.rect
  cuts_or_apart h k a b p q = elim (parts plan kit wire tracks f m (part_of h) (part_of k)) [
    | inl part ↦ elim (trunk_cases (is_power h) (is_power k)) [
      | inl trunk ↦ inl (part, trunk)
      | inr apart ↦ elim apart [
        | inl left ↦ inr (inr (inl (across (trunk_by plan kit wire f (is_power h)) (trunk_by plan kit wire f (is_power k)) a.rect.x2 b.rect.x1 p.via.right q.via.left left)))
        | inr right ↦ inr (inr (inr (inl (across (trunk_by plan kit wire f (is_power k)) (trunk_by plan kit wire f (is_power h)) b.rect.x2 a.rect.x1 q.via.right p.via.left right))))
      ]
    ]
    | inr apart ↦
        let i = cut_lies h a p in
        let j = cut_lies k b q in
        elim apart [
          | inl below ↦ let c = i.to in let d = j.from in inr (inr (inr (inr (inl (omega (arith, ints, c, d, below))))))
          | inr above ↦ let c = j.to in let d = i.from in inr (inr (inr (inr (inr (omega (arith, ints, c, d, above))))))
        ]
  ] where
    across : (t u x2 z1 : ℤ) → x2 ≡ (t +ℤ margin wire) +ℤ wire.cut → z1 ≡ u +ℤ margin wire → (t +ℤ (wire.width +ℤ wire.space)) ≤ℤ u → (x2 +ℤ wire.space) ≤ℤ z1
    across t u x2 z1 e d le = let two = two_margins wire m.laid.sizes in let one = margin_positive wire m.laid.sizes in omega (arith, ints, e, d, le, two, one)

module _ (Flat : List ℕ → Shape → Type 0) (plan other : Organization) (kit : LayoutKit) (bits : BitCells) (wire : Wire) (tracks many : Tracks) (f g : Floorplan) (m : IsDrawnMemory plan kit wire tracks f) (n : IsDrawnMemory other kit wire many g) (same : HaveOneLeftPart plan other) (insides : AllDrawInside wire Flat other kit bits)
    (from to : List Shape) (has_from : HasLeavesAndWires (slice_index wire.cuts 0) Flat other kit bits g (IsDrawnWire other kit wire many g) from) (has_to : HasLeavesAndWires (slice_index wire.cuts 0) Flat plan kit bits f (IsDrawnWire plan kit wire tracks f) to) where
  abbrev cut : ℕ
  cut = slice_index wire.cuts 0

  of_wires : IsWireLayer wire cut
  of_wires = inr (n.three 0 (omega arith))

  some_cut : pos 1 ≤ℤ wire.cut
  some_cut = m.laid.sizes.cut.from

  some : pos 1 ≤ℤ wire.space
  some = m.laid.sizes.space.from

  module _ (h k : Height) (a b c d : Shape) (cut_a : IsCutAlong plan kit wire f h a) (cut_b : IsCutAlong plan kit wire f k b) (cut_c : IsCutAlong other kit wire g h c) (cut_d : IsCutAlong other kit wire g k d) (part : part_of h ≡ part_of k) (trunk : is_power h ≡ is_power k) where
    abbrev up : ℤ
    up = low f (part_of h) -ℤ low g (part_of h)

    -- the left end of both, here and there
    abbrev here_x : ℤ
    here_x = trunk_by plan kit wire f (is_power h) +ℤ margin wire

    abbrev there_x : ℤ
    there_x = trunk_by other kit wire g (is_power h) +ℤ margin wire

    up_cut : (q : Height) → part_of h ≡ part_of q → (s t : Shape) → IsCutAlong plan kit wire f q s → IsCutAlong other kit wire g q t → IsUp up t.rect s.rect
    up_cut q at s t p r = record {
      low = go_low s.rect.y1 t.rect.y1 (low f (part_of q)) (low g (part_of q)) (rise_of plan kit wire q) (rise_of other kit wire q) p.via.low r.via.low (same_rise plan other kit wire q same) ∙ ap (λ (z : ℤ). t.rect.y1 +ℤ z) (sym up_at);
      high = go_high s.rect.y2 t.rect.y2 (low f (part_of q)) (low g (part_of q)) (rise_of plan kit wire q) (rise_of other kit wire q) p.via.high r.via.high (same_rise plan other kit wire q same) ∙ ap (λ (z : ℤ). t.rect.y2 +ℤ z) (sym up_at);
    } where
      up_at : up ≡ low f (part_of q) -ℤ low g (part_of q)
      up_at = ap (λ (p : Storey). low f p -ℤ low g p) at

      go_low : (s t l k r z : ℤ) → s ≡ (l +ℤ r) +ℤ margin wire → t ≡ (k +ℤ z) +ℤ margin wire → z ≡ r → s ≡ t +ℤ (l -ℤ k)
      go_low s t l k r z p q e = omega (arith, ints, p, q, e)

      go_high : (s t l k r z : ℤ) → s ≡ ((l +ℤ r) +ℤ margin wire) +ℤ wire.cut → t ≡ ((k +ℤ z) +ℤ margin wire) +ℤ wire.cut → z ≡ r → s ≡ t +ℤ (l -ℤ k)
      go_high s t l k r z p q e = omega (arith, ints, p, q, e)

    -- where a cut of the trunk begins and ends
    left_of : (one : Organization) (e : Floorplan) (q : Height) (s : Shape) → is_power h ≡ is_power q → IsCutAlong one kit wire e q s → (s.rect.x1 ≡ trunk_by one kit wire e (is_power h) +ℤ margin wire) × (s.rect.x2 ≡ (trunk_by one kit wire e (is_power h) +ℤ margin wire) +ℤ wire.cut)
    left_of one e q s is cut = (cut.via.left ∙ ap (λ (p : Bool). trunk_by one kit wire e p +ℤ margin wire) (sym is), cut.via.right ∙ ap (λ (p : Bool). (trunk_by one kit wire e p +ℤ margin wire) +ℤ wire.cut) (sym is))

    spans : (one : Organization) (e : Floorplan) (q : Height) (s : Shape) → is_power h ≡ is_power q → IsCutAlong one kit wire e q s → SpansUnit s.rect (trunk_by one kit wire e (is_power h) +ℤ margin wire)
    spans one e q s is cut = let l = left_of one e q s is cut in let x1 = l.0 in let x2 = l.1 in record { left = omega (arith, ints, x1); right = omega (arith, ints, x2, some_cut) }

    pub cuts_stacked : AreStacked a.rect b.rect c.rect d.rect
    cuts_stacked = record {
      x = here_x;
      here_a = spans plan f h a refl cut_a;
      here_b = spans plan f k b trunk cut_b;
      z = there_x;
      there_c = spans other g h c refl cut_c;
      there_d = spans other g k d trunk cut_d;
      up = up;
      up_a = up_cut h refl a c cut_a cut_c;
      up_b = up_cut k part b d cut_b cut_d;
    }

    -- a cut at a height between the two is of their part
    part_is : (v : ℤ) (q : Height) (t : Shape) → IsCutAlong other kit wire g q t → c.rect.y2 ≤ℤ v → v <ℤ d.rect.y1 → t.rect.y1 ≤ℤ v → v <ℤ t.rect.y2 → part_of h ≡ part_of q
    part_is v q t cut over under low_t high_t = elim (parts other kit wire many g n (part_of h) (part_of q)) [
      | inl at ↦ at
      | inr apart ↦
          let i = cut_lies other kit wire many g n q t cut in
          let i1 = i.from in
          let i2 = i.to in
          let j1 = (cut_lies other kit wire many g n h c cut_c).from in
          let tall_c = c.rect.tall in
          let tall_d = d.rect.tall in
          let j2 : d.rect.y2 ≤ℤ (low g (part_of h) +ℤ tall_of other kit (part_of h)) = subst (λ (p : Storey). d.rect.y2 ≤ℤ (low g p +ℤ tall_of other kit p)) (sym part) (cut_lies other kit wire many g n k d cut_d).to in
          elim apart [
            | inl below ↦ absurd (omega (arith, ints, i1, j2, below, under, low_t, tall_d, some))
            | inr above ↦ absurd (omega (arith, ints, i2, j1, above, over, high_t, tall_c, some))
          ]
    ]

    -- one that has the place is of their trunk
    trunk_part : (q : Height) (t : Shape) → IsCutAlong other kit wire g q t → t.rect.x1 ≤ℤ there_x → there_x <ℤ t.rect.x2 → is_power h ≡ is_power q
    trunk_part q t cut from_x to_x = elim (trunk_cases other kit wire many g n (is_power h) (is_power q)) [
      | inl at ↦ at
      | inr apart ↦
          let e = cut.via.left in
          let i = cut.via.right in
          let two = two_margins wire m.laid.sizes in
          let one = margin_positive wire m.laid.sizes in
          elim apart [
            | inl left ↦ absurd (omega (arith, ints, left, e, from_x, two, one, some, some_cut))
            | inr right ↦ absurd (omega (arith, ints, right, i, to_x, two, one, some, some_cut))
          ]
    ]

    cut_fills : (x y v : ℤ) (q : Height) (t : Shape) → y ≡ v +ℤ up → IsCutAlong other kit wire g q t → c.rect.y2 ≤ℤ v → v <ℤ d.rect.y1 → HasCell t.rect there_x v → a.rect.x1 ≤ℤ x → x <ℤ a.rect.x2 → HasCellInSome (rects_on cut to) x y
    cut_fills x y v q t is along over under cell left right =
        let at = part_is v q t along over under cell.low cell.high in
        let power = trunk_part q t along cell.left cell.right in
        let e = a_cut plan kit wire tracks f m q (same_bars other plan q (record { groups = sym same.groups; col_bits = sym same.col_bits; bank_bits = sym same.bank_bits }) along.has) in
        let i = up_cut q at e.0 t e.3 along in
        let l = left_of plan f q e.0 power e.3 in
        let r = left_of plan f h a refl cut_a in
        cell_among (rects_on cut to) e.0.rect x y (on_rects cut to e.0 ((has_to e.0 e.2).1 (inl e.1)) e.2) (record {
          left = let p = l.0 in let s = r.0 in omega (arith, ints, p, s, left);
          right = let p = l.1 in let s = r.1 in omega (arith, ints, p, s, right);
          low = let p = i.low in let s = cell.low in omega (arith, ints, p, s, is);
          high = let p = i.high in let s = cell.high in omega (arith, ints, p, s, is);
        })

    -- what is covered between them in the window is covered between them here
    pub cuts_fill : Fills cut from to a.rect b.rect c.rect d.rect
    cuts_fill covered x y i =
        let v = y -ℤ up in
        let under = let p = (up_cut h refl a c cut_a cut_c).high in let q = i.low in go_low a.rect.y2 c.rect.y2 y p q in
        let over = let p = (up_cut k part b d cut_b cut_d).low in let q = i.high in go_high b.rect.y1 d.rect.y1 y p q in
        let first = spans other g h c refl cut_c in
        let second = spans other g k d trunk cut_d in
        by (shape_over cut from there_x v (covered there_x v (record {
          left_a = first.left;
          right_a = let e = first.right in omega (arith, ints, e);
          left_b = second.left;
          right_b = let e = second.right in omega (arith, ints, e);
          low = under;
          high = over;
        }))) under over
      where
        go_low : (a c y : ℤ) → a ≡ c +ℤ up → a ≤ℤ y → c ≤ℤ (y -ℤ up)
        go_low a c y e le = omega (arith, ints, e, le)

        go_high : (b d y : ℤ) → b ≡ d +ℤ up → y <ℤ b → (y -ℤ up) <ℤ d
        go_high b d y e le = omega (arith, ints, e, le)

        back : (y up : ℤ) → y ≡ (y -ℤ up) +ℤ up
        back y up = omega (arith, ints)

        by : IsShapeOver cut from there_x (y -ℤ up) → c.rect.y2 ≤ℤ (y -ℤ up) → (y -ℤ up) <ℤ d.rect.y1 → HasCellInSome (rects_on cut to) x y
        by s under over = elim ((has_from s.shape s.on).0 s.there) [
          | inr o ↦
              let e = leaf_ends Flat other kit bits wire many g n insides cut of_wires s.shape s.on o in
              let t = trunks other kit wire many g n (is_power h) in
              let one = margin_positive wire m.laid.sizes in
              let r = s.holds.right in
              absurd (omega (arith, ints, e, t, one, r, some))
          | inl wired ↦ let q = on_cut other kit wire many g n s.shape s.on wired in cut_fills x y (y -ℤ up) q.0 s.shape (back y up) q.1 under over s.holds i.left_a i.right_a
        ]
