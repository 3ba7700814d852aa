-- The shape that a label binds.
use Rattle.std.proofs.Common.{◌≡◌, inl, inr, ℕ, List, Some, sym, subst, arith}
use Rattle.std.specs.Prelude.{slice_get}
use Rattle.std.specs.declared.cmp.Ordering.TheVariants.{Less}
use Rattle.std.specs.List.Sorted.{IsStrictlySortedBy}
use Rattle.std.proofs.lemmas.Bool.{cases_lt}
use Rattle.or_geom.specs.declared.shape.Shape.{Shape}
use Rattle.or_geom.specs.ShapeOrder.{shape_order}
use Rattle.or_geom.proofs.ListLaws.{one_at, contained_at}
use Rattle.or_geom.proofs.OneListLaws.{not_both}
use Rattle.or_geom.proofs.ShapeOrderLaws.{shape_total}
use Rattle.element_drawing.specs.PlainLabel.{PlainLabel}
use Rattle.label_binding.specs.declared.anchor.Anchor.{Anchor}
use Rattle.label_binding.specs.Binding.{Binds}
use Rattle.label_binding.specs.Bound.{IsBoundAt}
use Rattle.label_binding.specs.BoundPlaces.{label_anchor}
use Rattle.leaf_shapes.proofs.PlaceLaws.{at_contained, sorted_at}
use Rattle.leaf_nets.specs.Numbers.{GivesNet}

-- no shape comes before itself
not_self : (s t : Shape) → s ≡ t → shape_order s t ≡ Less → ⊥
not_self s t e less =
    let self : shape_order s s ≡ Less = subst (λ (u : Shape). shape_order s u ≡ Less) (sym e) less in
    not_both shape_order shape_total s s self self

-- a label binds one shape
pub one_bound : (shapes : List Shape) (label : Anchor) (s t : Shape) → IsStrictlySortedBy shape_order shapes → Binds shapes label s → Binds shapes label t → s ≡ t
one_bound shapes label s t rises a b =
    let i = a.listed.0 in
    let j = b.listed.0 in
    let at_i = at_contained shapes s a.listed in
    let at_j = at_contained shapes t b.listed in
    elim (cases_lt i j) [
      | inl lt ↦ absurd (b.first s a.listed a.under (sorted_at shape_order shapes i j s t rises at_i at_j lt))
      | inr ge ↦ elim (cases_lt j i) [
        | inl lt ↦ absurd (a.first t b.listed b.under (sorted_at shape_order shapes j i t s rises at_j at_i lt))
        | inr le ↦ let e : i ≡ j = omega (arith, ge, le) in one_at shapes j s t (subst (λ (n : ℕ). slice_get shapes n ≡ Some s) e at_i) at_j
      ]
    ]

-- the shape at the index that was found is the one that the label binds
pub bound_here : (shapes : List Shape) (label : Anchor) (i : ℕ) → IsStrictlySortedBy shape_order shapes → (at : IsBoundAt shapes label i) → Binds shapes label at.shape
bound_here shapes label i rises at = record {
  listed = contained_at shapes i at.shape at.there;
  under = at.under;
  first = λ other listed under less.
      let k = listed.0 in
      let at_k = at_contained shapes other listed in
      elim (cases_lt k i) [
        | inl lt ↦ at.before k other lt at_k under
        | inr ge ↦ elim (cases_lt i k) [
          | inl lt ↦ not_both shape_order shape_total at.shape other (sorted_at shape_order shapes i k at.shape other rises at.there at_k lt) less
          | inr le ↦ let e : k ≡ i = omega (arith, ge, le) in not_self other at.shape (one_at shapes i other at.shape (subst (λ (n : ℕ). slice_get shapes n ≡ Some other) e at_k) at.there) less
        ]
      ];
}

-- and the number at this index is that of its net
pub gives_here : (shapes : List Shape) (nets : List ℕ) (label : PlainLabel) (i n : ℕ) → IsStrictlySortedBy shape_order shapes → IsBoundAt shapes (label_anchor label) i → slice_get nets i ≡ Some n → GivesNet shapes nets label n
gives_here shapes nets label i n rises at is = record { shape = at.shape; binds = bound_here shapes (label_anchor label) i rises at; has = record { place = i; there = at.there; is = is } }
