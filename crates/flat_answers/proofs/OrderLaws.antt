-- Orders in which things that compare as equal are one.
use Rattle.std.proofs.Common.{◌≡◌, inl, inr, ℕ, ◌<◌, ℤ, ◌<ℤ◌, refl, sym, subst, ◌∙◌}
use Rattle.std.specs.Prelude.{IsTrue}
use Rattle.std.specs.Ordering.{MatchOrdering, nat_cmp, int_cmp, ordering_then, is_eq}
use Rattle.std.specs.declared.cmp.Ordering.{Ordering}
use Rattle.std.specs.declared.cmp.Ordering.TheVariants.{Less, Equal, Greater}
use Rattle.std.proofs.lemmas.Cmp.{int_ranked, ranked, tied_itself, on_total, then_total, int_cmp_total, nat_list_cmp_total}
use Rattle.std.proofs.lemmas.Map.Lookups.{exact_bytes}
use Rattle.or_geom.specs.declared.shape.Point.{Point}
use Rattle.or_geom.specs.declared.shape.Rect.{Rect}
use Rattle.or_geom.specs.declared.shape.Shape.{Shape}
use Rattle.or_geom.specs.Least.{name_order}
use Rattle.or_geom.specs.ShapeOrder.{rect_order, shape_order}
use Rattle.or_geom.proofs.PlaceLaws.{same_point, same_rect}
use Rattle.or_geom.proofs.ShapeOrderLaws.{rect_total, shape_total}
use Rattle.element_drawing.specs.LabelOrder.{label_order}
use Rattle.element_drawing.specs.OrderLaws.{label_total}
use Rattle.element_drawing.proofs.OrderLaws.{eq_is_same}
use Rattle.cell_hierarchy.specs.FlatLists.{point_order}
use Rattle.flat_answers.proofs.DecisionLaws.{Decided}
use Rattle.flat_answers.proofs.ListedLaws.{IsOrder}

pub equal_parts : (o p : Ordering) → ordering_then o p ≡ Equal → (o ≡ Equal) × (p ≡ Equal)
equal_parts Less p e = absurd cc
equal_parts Equal p e = (refl, e)
equal_parts Greater p e = absurd cc

pub equal_number : (x y : ℕ) → nat_cmp x y ≡ Equal → x ≡ y
equal_number x y e = subst (λ (o : Ordering). MatchOrdering o (x < y) (x ≡ y) (y < x)) e (ranked x y (nat_cmp x y) refl)

equal_int : (x y : ℤ) → int_cmp x y ≡ Equal → x ≡ y
equal_int x y e = subst (λ (o : Ordering). MatchOrdering o (x <ℤ y) (x ≡ y) (y <ℤ x)) e (int_ranked x y (int_cmp x y) refl)

equal_point : (p q : Point) → point_order p q ≡ Equal → p ≡ q
equal_point p q e = let both = equal_parts (int_cmp p.x q.x) (int_cmp p.y q.y) e in
    same_point p q (equal_int p.x q.x both.0) (equal_int p.y q.y both.1)

equal_rect : (r s : Rect) → rect_order r s ≡ Equal → r ≡ s
equal_rect r s e =
    let a = equal_parts (int_cmp r.x1 s.x1) _ e in
    let b = equal_parts (int_cmp r.y1 s.y1) _ a.1 in
    let c = equal_parts (int_cmp r.x2 s.x2) (int_cmp r.y2 s.y2) b.1 in
    same_rect r s (equal_int r.x1 s.x1 a.0) (equal_int r.y1 s.y1 b.0) (equal_int r.x2 s.x2 c.0) (equal_int r.y2 s.y2 c.1)

equal_shape : (s t : Shape) → shape_order s t ≡ Equal → s ≡ t
equal_shape s t e =
    let both = equal_parts (nat_cmp s.layer t.layer) (rect_order s.rect t.rect) e in
    let layer = equal_number s.layer t.layer both.0 in
    let rect = equal_rect s.rect t.rect both.1 in
    λ i. record { layer = layer i; rect = rect i }

pub points_in_order : IsOrder point_order
points_in_order = record {
  total = then_total (on_total (λ (p : Point). p.x) int_cmp_total) (on_total (λ (p : Point). p.y) int_cmp_total);
  one = equal_point;
}

pub rects_in_order : IsOrder rect_order
rects_in_order = record { total = rect_total; one = equal_rect }

pub shapes_in_order : IsOrder shape_order
shapes_in_order = record { total = shape_total; one = equal_shape }

pub labels_in_order : IsOrder label_order
labels_in_order = record { total = label_total; one = λ a b e. eq_is_same a b (subst (λ (o : Ordering). IsTrue (is_eq o)) (sym e) refl) }

pub names_in_order : IsOrder name_order
names_in_order = record { total = nat_list_cmp_total; one = exact_bytes }

pub decide_shape : (s t : Shape) → Decided (s ≡ t)
decide_shape s t = by (shape_order s t) refl
  where
    differ : (o : Ordering) → shape_order s t ≡ o → (o ≡ Equal → ⊥) → s ≡ t → ⊥
    differ o is other same = other (sym is ∙ subst (λ (u : Shape). shape_order s u ≡ Equal) same (tied_itself shape_total s))

    by : (o : Ordering) → shape_order s t ≡ o → Decided (s ≡ t)
    by Less e = inr (differ Less e (λ bad. absurd cc))
    by Equal e = inl (equal_shape s t e)
    by Greater e = inr (differ Greater e (λ bad. absurd cc))
