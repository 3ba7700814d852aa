-- Places of shapes in order, and what a label binds there.
use Rattle.std.proofs.Common.{◌≡◌, inl, inr, ℕ, zero, suc, ◌<◌, List, [], ◌∷◌, sym, subst, arith}
use Rattle.std.specs.Prelude.{Some, slice_get}
use Rattle.std.specs.List.Sorted.{IsStrictlySortedBy}
use Rattle.std.specs.declared.cmp.Ordering.{Ordering}
use Rattle.std.specs.declared.cmp.Ordering.TheVariants.{Less}
use Rattle.std.proofs.lemmas.Bool.{cases_lt}
use Rattle.or_geom.specs.declared.shape.Shape.{Shape}
use Rattle.or_geom.proofs.ListLaws.{contained_at, all_contained}
use Rattle.or_geom.specs.ShapeOrder.{shape_order}
use Rattle.or_geom.proofs.OneListLaws.{not_both}
use Rattle.or_geom.proofs.ShapeOrderLaws.{shape_total}
use Rattle.tech_rules.specs.declared.tech.Connect.{Connect}
use Rattle.label_binding.specs.declared.anchor.Anchor.{Anchor}
use Rattle.tech_rules.specs.Touch.{IsConductor, Touch, TouchOnLayer}
use Rattle.label_binding.specs.Binding.{Binds}
use Rattle.label_binding.specs.Bound.{IsBoundAt}
use Rattle.label_binding.proofs.PlaceLaws.{at_contained}

-- in a list in strict order, what stands earlier comes before what stands later
pub earlier_less : {X : Type 0} (cmp : X → X → Ordering) (xs : List X) (i j : ℕ) (x y : X) → IsStrictlySortedBy cmp xs → i < j → slice_get xs i ≡ Some x → slice_get xs j ≡ Some y → cmp x y ≡ Less
unfolding IsStrictlySortedBy
earlier_less cmp [] i j x y rises lt at_i at_j = absurd cc
earlier_less cmp (z ∷ zs) zero zero x y rises lt at_i at_j = absurd (omega arith)
earlier_less {X} cmp (z ∷ zs) zero (suc j) x y rises lt at_i at_j =
    let e : z ≡ x = cc in
    subst (λ (w : X). cmp w y ≡ Less) e (all_contained (λ (w : X). cmp z w ≡ Less) zs y rises.0 (contained_at zs j y at_j))
earlier_less cmp (z ∷ zs) (suc i) zero x y rises lt at_i at_j = absurd (omega arith)
earlier_less cmp (z ∷ zs) (suc i) (suc j) x y rises lt at_i at_j = earlier_less cmp zs i j x y rises.1 (omega arith) at_i at_j

pub layer_turned : (connections : List Connect) (a b : Shape) → TouchOnLayer connections a b → TouchOnLayer connections b a
layer_turned connections a b t =
    let j = t.joined in
    record {
      one_layer = sym t.one_layer;
      conductor = subst (IsConductor connections) t.one_layer t.conductor;
      joined = record { p = j.p; q = j.q; differ = j.differ; p_in_a = j.p_in_b; p_in_b = j.p_in_a; q_in_a = j.q_in_b; q_in_b = j.q_in_a };
    }

pub touch_turned : (connections : List Connect) (a b : Shape) → Touch connections a b → Touch connections b a
touch_turned connections a b (inl t) = inl (layer_turned connections a b t)
touch_turned connections a b (inr (inl t)) = inr (inr t)
touch_turned connections a b (inr (inr t)) = inr (inl t)

-- two places of one shape are one
pub distinct : (shapes : List Shape) (i j : ℕ) (s : Shape) → IsStrictlySortedBy shape_order shapes → slice_get shapes i ≡ Some s → slice_get shapes j ≡ Some s → i ≡ j
distinct shapes i j s rises at_i at_j = elim (cases_lt i j) [
  | inl lt ↦ let self = earlier_less shape_order shapes i j s s rises lt at_i at_j in absurd (not_both shape_order shape_total s s self self)
  | inr ge ↦ elim (cases_lt j i) [
    | inl lt ↦ let self = earlier_less shape_order shapes j i s s rises lt at_j at_i in absurd (not_both shape_order shape_total s s self self)
    | inr le ↦ omega arith
  ]
]

-- what a label binds stands at the place that was found
pub bound_there : (shapes : List Shape) (label : Anchor) (place : ℕ) (s : Shape) → IsStrictlySortedBy shape_order shapes → IsBoundAt shapes label place → Binds shapes label s → slice_get shapes place ≡ Some s
bound_there shapes label place s rises at_place b =
    let k = b.listed.0 in
    let at_k = at_contained shapes s b.listed in
    elim (cases_lt k place) [
      | inl lt ↦ absurd (at_place.before k s lt at_k b.under)
      | inr ge ↦ elim (cases_lt place k) [
        | inl lt ↦ absurd (b.first at_place.shape (contained_at shapes place at_place.shape at_place.there) at_place.under (earlier_less shape_order shapes place k at_place.shape s rises lt at_place.there at_k))
        | inr le ↦ let e : k ≡ place = omega arith in subst (λ (n : ℕ). slice_get shapes n ≡ Some s) e at_k
      ]
    ]
