-- Shapes of a set, each once and in order; and the shape of a box.
use Rattle.std.proofs.Common.{◌≡◌, ◌<◌, ◌<ℤ◌, ◌+ℤ◌, ℕ, ℤ, refl, subst, arith}
use Rattle.std.specs.Prelude.{slice_index}
use Rattle.std.specs.Ordering.{MatchOrdering, int_cmp, nat_cmp, ordering_then}
use Rattle.std.specs.declared.cmp.Ordering.{Ordering}
use Rattle.std.specs.declared.cmp.Ordering.TheVariants.{Less, Equal, Greater}
use Rattle.std.proofs.lemmas.Cmp.{int_ranked, ranked}
use Rattle.std.proofs.lemmas.Int.{ints, by_lt_z}
use Rattle.or_geom.specs.declared.shape.Rect.{Rect}
use Rattle.or_geom.specs.declared.shape.Shape.{Shape}
use Rattle.or_geom.specs.ShapeOrder.{rect_order, shape_order}
use Rattle.or_geom.proofs.PlaceLaws.{same_rect}
use Rattle.or_geom.proofs.ShapeOrderLaws.{shape_total}
use Rattle.tech_rules.specs.declared.tech.Wire.{Wire}
use Rattle.wire_drawing.specs.Drawing.{IsBox, IsVia}
use Rattle.tech_rules.specs.WireRules.{margin}
use Rattle.wire_drawing.proofs.DrawingLaws.{same_box}
use Rattle.channel_answers.proofs.ListedLaws.{Listed, ListedInOrder, listed_in_order, listed_none, listed_one, listed_within}

equal_parts : (o p : Ordering) → ordering_then o p ≡ Equal → (o ≡ Equal) × (p ≡ Equal)
equal_parts Less p e = absurd cc
equal_parts Equal p e = (refl, e)
equal_parts Greater p e = absurd cc

equal_number : (x y : ℕ) → nat_cmp x y ≡ Equal → x ≡ y
equal_number x y e = subst (λ (o : Ordering). MatchOrdering o (x < y) (x ≡ y) (y < x)) e (ranked x y (nat_cmp x y) refl)

equal_int : (x y : ℤ) → int_cmp x y ≡ Equal → x ≡ y
equal_int x y e = subst (λ (o : Ordering). MatchOrdering o (x <ℤ y) (x ≡ y) (y <ℤ x)) e (int_ranked x y (int_cmp x y) refl)

equal_rect : (r s : Rect) → rect_order r s ≡ Equal → r ≡ s
equal_rect r s e =
    let a = equal_parts (int_cmp r.x1 s.x1) _ e in
    let b = equal_parts (int_cmp r.y1 s.y1) _ a.1 in
    let c = equal_parts (int_cmp r.x2 s.x2) (int_cmp r.y2 s.y2) b.1 in
    same_rect r s (equal_int r.x1 s.x1 a.0) (equal_int r.y1 s.y1 b.0) (equal_int r.x2 s.x2 c.0) (equal_int r.y2 s.y2 c.1)

equal_shape : (s t : Shape) → shape_order s t ≡ Equal → s ≡ t
equal_shape s t e =
    let both = equal_parts (nat_cmp s.layer t.layer) (rect_order s.rect t.rect) e in
    let layer = equal_number s.layer t.layer both.0 in
    let rect = equal_rect s.rect t.rect both.1 in
    λ i. record { layer = layer i; rect = rect i }

pub shapes_in_order : (n : ℕ) (P : Shape → Type 0) → Listed n P → ListedInOrder shape_order n P
shapes_in_order n P a = listed_in_order shape_order n P shape_total equal_shape a

-- a box that is no rectangle is none
pub listed_box : (layer : ℕ) (x1 y1 x2 y2 : ℤ) → Listed 1 (IsBox layer x1 y1 x2 y2)
listed_box layer x1 y1 x2 y2 =
    by_lt_z {P = Listed 1 (IsBox layer x1 y1 x2 y2)} x1 x2
    (λ wide. by_lt_z {P = Listed 1 (IsBox layer x1 y1 x2 y2)} y1 y2
    (λ tall. one wide tall)
    (λ flat. none (λ s box. let lt = s.rect.tall in let low = box.low in let high = box.high in omega (arith, ints, lt, low, high, flat))))
    (λ narrow. none (λ s box. let lt = s.rect.wide in let left = box.left in let right = box.right in omega (arith, ints, lt, left, right, narrow)))
  where
    none : ((s : Shape) → IsBox layer x1 y1 x2 y2 s → ⊥) → Listed 1 (IsBox layer x1 y1 x2 y2)
    none never = listed_within 0 1 (IsBox layer x1 y1 x2 y2) (omega arith) (listed_none (IsBox layer x1 y1 x2 y2) never)

    one : x1 <ℤ x2 → y1 <ℤ y2 → Listed 1 (IsBox layer x1 y1 x2 y2)
    one wide tall =
        let r : Rect = record { x1 = x1; y1 = y1; x2 = x2; y2 = y2; wide = wide; tall = tall } in
        let s : Shape = record { layer = layer; rect = r } in
        let is : IsBox layer x1 y1 x2 y2 s = record { on = refl; left = refl; low = refl; right = refl; high = refl } in
        listed_one (IsBox layer x1 y1 x2 y2) s is (λ t box. same_box layer x1 y1 x2 y2 t s box is)

pub listed_via : (wire : Wire) (cut : ℕ) (x y : ℤ) → Listed 1 (IsVia wire cut x y)
listed_via wire cut x y =
    let x1 = x +ℤ margin wire in
    let y1 = y +ℤ margin wire in
    listed_box (slice_index wire.cuts cut) x1 y1 (x1 +ℤ wire.cut) (y1 +ℤ wire.cut)
