-- Two shapes of one layer, one over the other, that keep a space rule as two others do which stand as high over one another.
use Rattle.std.proofs.Common.{◌≡◌, ◌⊎◌, inl, inr, ◌∙◌, ℕ, ℤ, pos, ◌+ℤ◌, ◌-ℤ◌, ◌*ℤ◌, ◌≤ℤ◌, ◌<ℤ◌, List, [], refl, sym, ap, subst, arith}
use Rattle.std.specs.Prelude.{◌≢◌, Contains, Some, slice_get}
use Rattle.std.specs.Int.{int_max, int_min}
use Rattle.std.proofs.lemmas.Int.{ints, clamps, by_lt_z}
use Rattle.std.proofs.lemmas.Option.{slice_get-get_or}
use Rattle.or_geom.specs.declared.shape.Point.{Point}
use Rattle.or_geom.specs.declared.shape.Rect.{Rect}
use Rattle.or_geom.specs.declared.shape.Shape.{Shape}
use Rattle.or_geom.specs.Covered.{HasCell, HasCellInSome}
use Rattle.or_geom.specs.Gap.{IsGapBox}
use Rattle.or_geom.specs.Joined.{AreJoined}
use Rattle.or_geom.specs.Span.{across, upward}
use Rattle.shape_bins.specs.Layers.{rects_on}
use Rattle.tech_rules.specs.declared.tech.Rule.{Rule}
use Rattle.tech_rules.specs.declared.tech.Rule.TheVariants.{Space}
use Rattle.tile_checker.specs.Breaks.{AreNear, BreaksSpace, IsGapCovered}
use Rattle.tile_checker.specs.RuleReport.{IsReport}
use Rattle.local_report.proofs.CleanLaws.{clean_two, space_back}
use Rattle.local_report.proofs.SpanLaws.{apart_by, apart_is, square_apart, is_square_apart, same_apart, near_apart}
use Rattle.supply_bars.proofs.BarLaws.{IsUp}

-- the rectangle spans the unit that begins there
pub record SpansUnit (r : Rect) (x : ℤ) : Type 0 where
  pub left : r.x1 ≤ℤ x
  pub right : (x +ℤ pos 1) ≤ℤ r.x2

unit_differs : (x y : ℤ) → ◌≢◌ {A = Point} (record { x = x; y = y }) (record { x = x +ℤ pos 1; y = y })
unit_differs x y e = let h : x ≡ x +ℤ pos 1 = ap (λ (p : Point). p.x) e in absurd (omega (arith, ints, h))

-- rectangles that span a unit and share a height are joined
pub joined_at : (a b : Rect) (x y : ℤ) → SpansUnit a x → SpansUnit b x → a.y1 ≤ℤ y → y ≤ℤ a.y2 → b.y1 ≤ℤ y → y ≤ℤ b.y2 → AreJoined a b
joined_at a b x y p q la ha lb hb = record {
  p = record { x = x; y = y };
  q = record { x = x +ℤ pos 1; y = y };
  differ = unit_differs x y;
  p_in_a = record { left = p.left; right = let r = p.right in omega (arith, ints, r); low = la; high = ha };
  p_in_b = record { left = q.left; right = let r = q.right in omega (arith, ints, r); low = lb; high = hb };
  q_in_a = record { left = let r = p.left in omega (arith, ints, r); right = p.right; low = la; high = ha };
  q_in_b = record { left = let r = q.left in omega (arith, ints, r); right = q.right; low = lb; high = hb };
}

-- so of two that are not joined one ends below the other
pub one_over : (a b : Rect) (x : ℤ) → SpansUnit a x → SpansUnit b x → (AreJoined a b → ⊥) → (a.y2 <ℤ b.y1) ⊎ (b.y2 <ℤ a.y1)
one_over a b x p q apart =
    let ta = a.tall in
    let tb = b.tall in
    by_lt_z a.y2 b.y1 (λ lt. inl lt) (λ ge1. by_lt_z b.y2 a.y1 (λ lt. inr lt) (λ ge2.
    by_lt_z a.y1 b.y1
    (λ lt. absurd (apart (joined_at a b x b.y1 p q (omega (arith, ints, lt)) ge1 (omega (arith, ints)) (omega (arith, ints, tb)))))
    (λ ge. absurd (apart (joined_at a b x a.y1 p q (omega (arith, ints)) (omega (arith, ints, ta)) ge ge2)))))

-- two rectangles that span a unit, and two others as high over one another that span one too
pub record AreStacked (a b c d : Rect) : Type 0 where
  pub x : ℤ
  pub here_a : SpansUnit a x
  pub here_b : SpansUnit b x
  pub z : ℤ
  pub there_c : SpansUnit c z
  pub there_d : SpansUnit d z
  pub up : ℤ
  pub up_a : IsUp up c a
  pub up_b : IsUp up d b

joined_here : (a b c d : Rect) → AreStacked a b c d → AreJoined c d → AreJoined a b
joined_here a b c d s j = joined_at a b s.x (j.p.y +ℤ s.up) s.here_a s.here_b
    (let e = s.up_a.low in let i = j.p_in_a.low in omega (arith, ints, e, i))
    (let e = s.up_a.high in let i = j.p_in_a.high in omega (arith, ints, e, i))
    (let e = s.up_b.low in let i = j.p_in_b.low in omega (arith, ints, e, i))
    (let e = s.up_b.high in let i = j.p_in_b.high in omega (arith, ints, e, i))

across_none : (a b : Rect) (x : ℤ) → SpansUnit a x → SpansUnit b x → apart_by (across a) (across b) ≡ pos 0
across_none a b x p q = apart_is (across a) (across b) ∙ go a.x1 a.x2 b.x1 b.x2 p.left p.right q.left q.right where
  go : (a1 a2 b1 b2 : ℤ) → a1 ≤ℤ x → (x +ℤ pos 1) ≤ℤ a2 → b1 ≤ℤ x → (x +ℤ pos 1) ≤ℤ b2 → int_max (pos 0) (int_max (b1 -ℤ a2) (a1 -ℤ b2)) ≡ pos 0
  go a1 a2 b1 b2 e f g h = omega (arith, ints, clamps, e, f, g, h)

upward_same : (a b c d : Rect) (up : ℤ) → IsUp up c a → IsUp up d b → apart_by (upward c) (upward d) ≡ apart_by (upward a) (upward b)
upward_same a b c d up p q = apart_is (upward c) (upward d) ∙ go a.y1 a.y2 b.y1 b.y2 c.y1 c.y2 d.y1 d.y2 p.low p.high q.low q.high ∙ sym (apart_is (upward a) (upward b)) where
  go : (a1 a2 b1 b2 c1 c2 d1 d2 : ℤ) → a1 ≡ c1 +ℤ up → a2 ≡ c2 +ℤ up → b1 ≡ d1 +ℤ up → b2 ≡ d2 +ℤ up → int_max (pos 0) (int_max (d1 -ℤ c2) (c1 -ℤ d2)) ≡ int_max (pos 0) (int_max (b1 -ℤ a2) (a1 -ℤ b2))
  go a1 a2 b1 b2 c1 c2 d1 d2 e f g h =
      let left : d1 -ℤ c2 ≡ b1 -ℤ a2 = omega (arith, ints, g, f) in
      let right : c1 -ℤ d2 ≡ a1 -ℤ b2 = omega (arith, ints, e, h) in
      ap (λ (u : ℤ). int_max (pos 0) (int_max u (c1 -ℤ d2))) left ∙ ap (λ (u : ℤ). int_max (pos 0) (int_max (b1 -ℤ a2) u)) right

near_there : (min : ℤ) (a b c d : Rect) → AreStacked a b c d → AreNear min a b → AreNear min c d
near_there min a b c d s near = record {
  apart = λ j. near.apart (joined_here a b c d s j);
  distance = square_apart c d;
  is = is_square_apart c d;
  near = subst (λ (q : ℤ). q <ℤ (min *ℤ min)) (sym (same_apart c d a b (across_none c d s.z s.there_c s.there_d ∙ sym (across_none a b s.x s.here_a s.here_b)) (upward_same a b c d s.up s.up_a s.up_b))) (near_apart min a b near);
}

-- The gap box of a rectangle that ends below another
pub gap_over : (a b : Rect) (x : ℤ) → SpansUnit a x → SpansUnit b x → a.y2 <ℤ b.y1 → (gap : Rect) × IsGapBox a b gap × (gap.y1 ≡ a.y2) × (gap.y2 ≡ b.y1) × (gap.x1 ≡ int_max a.x1 b.x1) × (gap.x2 ≡ int_min a.x2 b.x2)
gap_over a b x p q lt =
    let ta = a.tall in
    let tb = b.tall in
    let pl = p.left in
    let pr = p.right in
    let ql = q.left in
    let qr = q.right in (
      record { x1 = int_max a.x1 b.x1; y1 = a.y2; x2 = int_min a.x2 b.x2; y2 = b.y1; wide = omega (arith, ints, clamps, pl, pr, ql, qr); tall = lt },
      record {
        in_x = record {
          before = λ h. absurd (omega (arith, ints, h, pl, pr, ql, qr));
          after = λ h. absurd (omega (arith, ints, h, pl, pr, ql, qr));
          touching_before = λ h. absurd (omega (arith, ints, h, pl, pr, ql, qr));
          touching_after = λ h. absurd (omega (arith, ints, h, pl, pr, ql, qr));
          shared = λ h k z. (
            λ i. let u = i.above in let v = i.below in (record { above = omega (arith, ints, clamps, u); below = omega (arith, ints, clamps, v) }, record { above = omega (arith, ints, clamps, u); below = omega (arith, ints, clamps, v) }),
            λ i. let u = i.0.above in let v = i.0.below in let t = i.1.above in let w = i.1.below in record { above = omega (arith, ints, clamps, u, t); below = omega (arith, ints, clamps, v, w) },
          );
        };
        in_y = record {
          before = λ h. record { from = refl; to = refl };
          after = λ h. absurd (omega (arith, ints, h, lt, ta, tb));
          touching_before = λ h. absurd (omega (arith, ints, h, lt, ta, tb));
          touching_after = λ h. absurd (omega (arith, ints, h, lt, ta, tb));
          shared = λ h k z. absurd (omega (arith, ints, h, k, lt, ta, tb));
        };
      },
      refl,
      refl,
      refl,
      refl,
    )

-- the unit cell lies over the first and under the second, in what both span
pub record IsBetween (a b : Rect) (x y : ℤ) : Type 0 where
  pub left_a : a.x1 ≤ℤ x
  pub right_a : x <ℤ a.x2
  pub left_b : b.x1 ≤ℤ x
  pub right_b : x <ℤ b.x2
  pub low : a.y2 ≤ℤ y
  pub high : y <ℤ b.y1

-- where all between two is covered there, all between two is covered here
abbrev pub Fills : ℕ → List Shape → List Shape → Rect → Rect → Rect → Rect → Type 0
Fills layer from to a b c d = ((u v : ℤ) → IsBetween c d u v → HasCellInSome (rects_on layer from) u v) → (x y : ℤ) → IsBetween a b x y → HasCellInSome (rects_on layer to) x y

in_gap : (c d gap : Rect) (u v : ℤ) → IsGapBox c d gap → IsBetween c d u v → HasCell gap u v
in_gap c d gap u v is i =
    let low = i.low in
    let high = i.high in
    let lc = i.left_a in
    let rc = i.right_a in
    let ld = i.left_b in
    let rd = i.right_b in
    let over : c.y2 <ℤ d.y1 = omega (arith, ints, low, high) in
    let both_c : c.x1 <ℤ d.x2 = omega (arith, ints, lc, rd) in
    let both_d : d.x1 <ℤ c.x2 = omega (arith, ints, ld, rc) in
    let y = is.in_y.before over in
    let first = (is.in_x.shared both_c both_d u).1 (record { above = lc; below = omega (arith, ints, rc) }, record { above = ld; below = omega (arith, ints, rd) }) in
    let last = (is.in_x.shared both_c both_d (u +ℤ pos 1)).1 (record { above = omega (arith, ints, lc); below = omega (arith, ints, rc) }, record { above = omega (arith, ints, ld); below = omega (arith, ints, rd) }) in
    record {
      left = first.above;
      right = let e = last.below in omega (arith, ints, e);
      low = let e = y.from in omega (arith, ints, e, low);
      high = let e = y.to in omega (arith, ints, e, high);
    }

from_gap : (a b gap : Rect) (x y : ℤ) → (gap.y1 ≡ a.y2) → (gap.y2 ≡ b.y1) → (gap.x1 ≡ int_max a.x1 b.x1) → (gap.x2 ≡ int_min a.x2 b.x2) → HasCell gap x y → IsBetween a b x y
from_gap a b gap x y low high left right has = record {
  left_a = let h = has.left in omega (arith, ints, clamps, left, h);
  right_a = let h = has.right in omega (arith, ints, clamps, right, h);
  left_b = let h = has.left in omega (arith, ints, clamps, left, h);
  right_b = let h = has.right in omega (arith, ints, clamps, right, h);
  low = let h = has.low in omega (arith, ints, low, h);
  high = let h = has.high in omega (arith, ints, high, h);
}

numbered : (rules : List Rule) (rule : Rule) → Contains rules rule → (number : ℕ) × (slice_get rules number ≡ Some rule)
numbered rules rule c = (c.0, slice_get-get_or rules c.0 rule c.1 ∙ ap (λ (r : Rule). Some r) c.2)

module _ (rules : List Rule) (layer : ℕ) (min : ℤ) (from to : List Shape) (clean : IsReport rules from []) (listed : Contains rules (Space layer layer min)) where
  below_kept : (a b c d : Shape) → Contains from c → Contains from d → a.layer ≡ layer → b.layer ≡ layer → c.layer ≡ layer → d.layer ≡ layer → AreStacked a.rect b.rect c.rect d.rect → Fills layer from to a.rect b.rect c.rect d.rect → a.rect.y2 <ℤ b.rect.y1 → BreaksSpace layer layer min to a b → ⊥
  below_kept a b c d has_c has_d on_a on_b on_c on_d s fills lt broken =
      let at = numbered rules (Space layer layer min) listed in
      clean_two rules from at.0 layer layer min c d clean at.1 has_c has_d (record {
        on = inl (on_c, on_d);
        near = near_there min a.rect b.rect c.rect d.rect s broken.near;
        bare = λ covered. broken.bare (here covered);
      })
    where
      here : IsGapCovered from c d → IsGapCovered to a b
      here covered =
          let g = gap_over a.rect b.rect s.x s.here_a s.here_b lt in
          record {
            one_layer = on_a ∙ sym on_b;
            gap = g.0;
            is = g.1;
            covered = λ x y cell.
                subst (λ (k : ℕ). HasCellInSome (rects_on k to) x y) (sym on_a)
                (fills (λ u v i. subst (λ (k : ℕ). HasCellInSome (rects_on k from) u v) on_c (covered.covered u v (in_gap c.rect d.rect covered.gap u v covered.is i))) x y (from_gap a.rect b.rect g.0 x y g.2 g.3 g.4 g.5 cell));
          }

  stacked_back : (a b c d : Rect) → AreStacked a b c d → AreStacked b a d c
  stacked_back a b c d s = record { x = s.x; here_a = s.here_b; here_b = s.here_a; z = s.z; there_c = s.there_d; there_d = s.there_c; up = s.up; up_a = s.up_b; up_b = s.up_a }

  -- two shapes of the layer keep the rule as two others
  pub stacked_kept : (a b c d : Shape) → Contains from c → Contains from d → a.layer ≡ layer → b.layer ≡ layer → c.layer ≡ layer → d.layer ≡ layer → AreStacked a.rect b.rect c.rect d.rect → Fills layer from to a.rect b.rect c.rect d.rect → Fills layer from to b.rect a.rect d.rect c.rect → BreaksSpace layer layer min to a b → ⊥
  stacked_kept a b c d has_c has_d on_a on_b on_c on_d s fills fills_back broken = elim (one_over a.rect b.rect s.x s.here_a s.here_b broken.near.apart) [
    | inl lt ↦ below_kept a b c d has_c has_d on_a on_b on_c on_d s fills lt broken
    | inr lt ↦ below_kept b a d c has_d has_c on_b on_a on_d on_c (stacked_back a.rect b.rect c.rect d.rect s) fills_back lt (space_back layer layer min to a b broken)
  ]
