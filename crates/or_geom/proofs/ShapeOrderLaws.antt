-- Shapes in order: the order is total, equal shapes are one, and each of reachable shapes is reachable.
use Rattle.std.proofs.Common.{◌≡◌, ℕ, zero, suc, ◌<◌, List, [], ◌∷◌, length, get_or, sym, subst, arith, Bool, true, ◌&&◌, eqb}
use Rattle.std.specs.Cmp.{IsTotalOrder}
use Rattle.std.proofs.lemmas.Cmp.{on_total, then_total, nat_cmp_total, int_cmp_total}
use Rattle.or_geom.specs.declared.shape.Rect.{Rect}
use Rattle.or_geom.specs.declared.shape.Shape.{Shape}
use Rattle.or_geom.specs.Distance.{IsReachable}
use Rattle.std.specs.Ordering.{is_eq, int_cmp}
use Rattle.std.proofs.lemmas.Bool.{and_parts, eqb-true}
use Rattle.or_geom.proofs.PlaceLaws.{same_box}
use Rattle.or_geom.specs.Reachable.{AreReachable}
use Rattle.or_geom.specs.ShapeOrder.{rect_order, shape_order}

pub rect_total : IsTotalOrder rect_order
rect_total = then_total (on_total (λ (r : Rect). r.x1) int_cmp_total) (then_total (on_total (λ (r : Rect). r.y1) int_cmp_total) (then_total (on_total (λ (r : Rect). r.x2) int_cmp_total) (on_total (λ (r : Rect). r.y2) int_cmp_total)))

pub shape_total : IsTotalOrder shape_order
shape_total = then_total (on_total (λ (s : Shape). s.layer) nat_cmp_total) (on_total (λ (s : Shape). s.rect) rect_total)

-- each of reachable shapes is
pub reachable_at : (shapes : List Shape) (k : ℕ) (s : Shape) → AreReachable shapes → k < length shapes → s ≡ get_or shapes k s → IsReachable s.rect
reachable_at [] k s all lt is = absurd (omega arith)
reachable_at (t ∷ ts) zero s all lt is = subst (λ (u : Shape). IsReachable u.rect) (sym is) all.0
reachable_at (t ∷ ts) (suc k) s all lt is = reachable_at ts k s all.1 (omega arith) is

-- shapes that compare as equal are one
abbrev pub shape_eq : Shape → Shape → Bool
shape_eq s t = eqb s.layer t.layer && (is_eq (int_cmp s.rect.x1 t.rect.x1) && (is_eq (int_cmp s.rect.y1 t.rect.y1) && (is_eq (int_cmp s.rect.x2 t.rect.x2) && is_eq (int_cmp s.rect.y2 t.rect.y2))))

pub same_shape : (s t : Shape) → shape_eq s t ≡ true → s ≡ t
same_shape s t e =
    let both = and_parts (eqb s.layer t.layer) _ e in
    let layer = eqb-true s.layer t.layer both.0 in
    let rect = same_box s.rect t.rect both.1 in
    λ i. record { layer = layer i; rect = rect i }
