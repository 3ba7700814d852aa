-- There is one least distance and one gap, and what the pairs of a list find is what the rule's definition says.
use Rattle.std.proofs.Common.{not, ◌≡◌, inl, inr, ℕ, ℤ, ◌≤ℤ◌, ◌<ℤ◌, List, refl, sym, subst, ◌∙◌, arith, Bool, true, false, IsTrue, ◌↔◌}
use Rattle.std.proofs.lemmas.Int.{ints, by_lt_z}
use Rattle.or_geom.specs.declared.shape.Rect.{Rect}
use Rattle.or_geom.specs.declared.shape.Shape.{Shape}
use Rattle.or_geom.specs.declared.span.Span.{Span}
use Rattle.or_geom.specs.Covered.{IsCovered}
use Rattle.or_geom.specs.Distance.{IsLeastDist2}
use Rattle.or_geom.specs.Gap.{IsGap, IsGapBox, IsFromTo}
use Rattle.or_geom.specs.Span.{across, upward}
use Rattle.or_geom.proofs.PlaceLaws.{same_rect}
use Rattle.shape_bins.specs.Layers.{rects_on, IsCoveredBy}
use Rattle.tile_checker.specs.Breaks.{AreNear, IsGapCovered}
use Rattle.tile_checker.specs.Found.{AreOnLayersOf, IsGapCoveredIn, IsSpaceFound}
use Rattle.tile_checker.specs.declared.space.SpaceRule.{SpaceRule}

pub at_most : (a b : Rect) (d e : ℤ) → IsLeastDist2 a b d → IsLeastDist2 a b e → d ≤ℤ e
at_most a b d e p q = subst (λ (z : ℤ). d ≤ℤ z) q.reached (p.least q.p q.q q.p_in_a q.q_in_b)

pub below_itself : (x y z : ℤ) → x ≤ℤ y → y ≤ℤ z → z <ℤ x → ⊥
below_itself x y z p q r = omega (arith, ints)

record AreOneSpan (g h : Span) : Type 0 where
  pub low : g.low ≡ h.low
  pub high : g.high ≡ h.high

from_to_once : (low high : ℤ) (g h : Span) → IsFromTo low high g → IsFromTo low high h → AreOneSpan g h
from_to_once low high g h p q = record { low = p.from ∙ sym q.from; high = p.to ∙ sym q.to }

-- two spans have one gap
gap_once : (a b g h : Span) → IsGap a b g → IsGap a b h → AreOneSpan g h
gap_once a b g h p q =
    let wide_g : g.low <ℤ g.high = g.ordered in
    let wide_h : h.low <ℤ h.high = h.ordered in
    by_lt_z a.high b.low (λ lt. from_to_once _ _ g h (p.before lt) (q.before lt)) (λ ge1.
    by_lt_z b.high a.low (λ lt. from_to_once _ _ g h (p.after lt) (q.after lt)) (λ ge2.
    by_lt_z b.low a.high
    (λ lt1. by_lt_z a.low b.high
    (λ lt2.
    let s = p.shared lt2 lt1 in
    let t = q.shared lt2 lt1 in
    let hl = (s h.low).1 ((t h.low).0 (record { above = omega (arith, ints); below = omega (arith, ints) })) in
    let hh = (s h.high).1 ((t h.high).0 (record { above = omega (arith, ints); below = omega (arith, ints) })) in
    let gl = (t g.low).1 ((s g.low).0 (record { above = omega (arith, ints); below = omega (arith, ints) })) in
    let gh = (t g.high).1 ((s g.high).0 (record { above = omega (arith, ints); below = omega (arith, ints) })) in
    record { low = omega (arith, ints, hl.above, gl.above); high = omega (arith, ints, hh.below, gh.below) })
    (λ ge. from_to_once _ _ g h (p.touching_after (omega (arith, ints))) (q.touching_after (omega (arith, ints)))))
    (λ ge. from_to_once _ _ g h (p.touching_before (omega (arith, ints))) (q.touching_before (omega (arith, ints))))))

pub gap_box_once : (a b g h : Rect) → IsGapBox a b g → IsGapBox a b h → g ≡ h
gap_box_once a b g h p q =
    let x = gap_once (across a) (across b) (across g) (across h) p.in_x q.in_x in
    let y = gap_once (upward a) (upward b) (upward g) (upward h) p.in_y q.in_y in
    same_rect g h x.low y.low x.high y.high

-- where the layers fit and the shapes are near, it is the gap that decides
pub space_found : (rule : SpaceRule) (rects : List Rect) (a b : Shape) (gap : Rect) (r : Bool) → AreOnLayersOf rule a b → AreNear rule.min.value a.rect b.rect → a.layer ≡ b.layer → IsGapBox a.rect b.rect gap → (IsTrue r ↔ IsCovered gap rects)
    → IsTrue (not r) ↔ IsSpaceFound rule rects a b
space_found rule rects a b gap true on near one is h = (λ f. absurd cc, λ s. absurd (s.bare (record { one_layer = one; gap = gap; is = is; covered = h.0 refl })))
space_found rule rects a b gap false on near one is h = (
  λ t. record { on = on; near = near; bare = λ e. let yes = h.1 (subst (λ (g : Rect). IsCovered g rects) (gap_box_once a.rect b.rect e.gap gap e.is is) e.covered) in absurd cc },
  λ s. refl,
)

own_layer : (rule : SpaceRule) (a b : Shape) → AreOnLayersOf rule a b → a.layer ≡ b.layer → a.layer ≡ rule.layer
own_layer rule a b (inl on) one = on.0
own_layer rule a b (inr on) one = one ∙ on.1

pub gap_in : (rule : SpaceRule) (shapes : List Shape) (a b : Shape) → AreOnLayersOf rule a b → IsGapCovered shapes a b → IsGapCoveredIn (rects_on rule.layer shapes) a b
gap_in rule shapes a b on g = record {
  one_layer = g.one_layer;
  gap = g.gap;
  is = g.is;
  covered = subst (λ (layer : ℕ). IsCoveredBy layer shapes g.gap) (own_layer rule a b on g.one_layer) g.covered;
}

pub gap_out : (rule : SpaceRule) (shapes : List Shape) (a b : Shape) → AreOnLayersOf rule a b → IsGapCoveredIn (rects_on rule.layer shapes) a b → IsGapCovered shapes a b
gap_out rule shapes a b on g = record {
  one_layer = g.one_layer;
  gap = g.gap;
  is = g.is;
  covered = subst (λ (layer : ℕ). IsCoveredBy layer shapes g.gap) (sym (own_layer rule a b on g.one_layer)) g.covered;
}
