-- The shape that a label binds, and the first of a pin's candidates.
use Rattle.std.proofs.Common.{◌≡◌, inl, inr, ℕ, ◌≤◌, List, length, map, Some, sym, ap, subst, ◌∙◌, arith}
use Rattle.std.specs.Prelude.{slice_get, option_map}
use Rattle.std.specs.List.Sorted.{IsStrictlySortedBy}
use Rattle.std.specs.declared.cmp.Ordering.TheVariants.{Less}
use Rattle.std.proofs.lemmas.Bool.{cases_lt}
use Rattle.std.proofs.lemmas.Option.{slice_get-map, slice_get_within}
use Rattle.or_geom.specs.declared.shape.Shape.{Shape}
use Rattle.or_geom.specs.ShapeOrder.{shape_order}
use Rattle.or_geom.proofs.ListLaws.{one_at, contained_at}
use Rattle.or_geom.proofs.OneListLaws.{not_both}
use Rattle.or_geom.proofs.ShapeOrderLaws.{shape_total}
use Rattle.shape_bins.specs.declared.query.Query.TheVariants.{At}
use Rattle.shape_bins.specs.Hits.{IsFirstHit, NoHitFrom}
use Rattle.cell_hierarchy.specs.declared.flat.Label.{Label}
use Rattle.cell_hierarchy.specs.Plain.{plain_label}
use Rattle.element_drawing.specs.PlainLabel.{PlainLabel}
use Rattle.label_binding.specs.declared.anchor.Anchor.{Anchor}
use Rattle.label_binding.specs.Binding.{IsUnder, Binds, BindsNone}
use Rattle.label_binding.specs.BoundPlaces.{label_anchor}
use Rattle.leaf_shapes.specs.declared.candidate.WantedShape.{WantedShape}
use Rattle.leaf_shapes.specs.Candidates.{NoCandidate, IsFirstCandidate}
use Rattle.leaf_shapes.specs.Wanted.{IsWanted, GivesShape, GivesNone}
use Rattle.leaf_shapes.proofs.PlaceLaws.{EachBefore, at_contained, sorted_at}

-- no shape comes before itself
not_self : (s t : Shape) → s ≡ t → shape_order s t ≡ Less → ⊥
not_self s t e less =
    let self : shape_order s s ≡ Less = subst (λ (u : Shape). shape_order s u ≡ Less) (sym e) less in
    not_both shape_order shape_total s s self self

-- the first shape whose box contains the label's point is the one that it binds
pub hit_binds : (shapes : List Shape) (label : PlainLabel) (place : ℕ) (s : Shape) → IsStrictlySortedBy shape_order shapes → slice_get shapes place ≡ Some s → IsFirstHit shapes label.layer (At label.at) 0 place → Binds shapes (label_anchor label) s
hit_binds shapes label place s rises here hit =
    let same : hit.hit.shape ≡ s = one_at shapes place hit.hit.shape s hit.hit.there here in
    record {
      listed = contained_at shapes place s here;
      under = subst (IsUnder (label_anchor label)) same (record { on = hit.hit.on; holds = hit.hit.fits });
      first = λ other listed under less.
          let k = listed.0 in
          let at_k = at_contained shapes other listed in
          let le = hit.first k (omega arith) (record { shape = other; there = at_k; on = under.on; fits = under.holds }) in
          elim (cases_lt place k) [
            | inl lt ↦ not_both shape_order shape_total s other (sorted_at shape_order shapes place k s other rises here at_k lt) less
            | inr ge ↦ let e : place ≡ k = omega (arith, le, ge) in not_self other s (one_at shapes k other s at_k (subst (λ (n : ℕ). slice_get shapes n ≡ Some s) e here)) less
          ];
    }

-- and where there is none it binds none
pub none_binds : (shapes : List Shape) (label : PlainLabel) → NoHitFrom shapes label.layer (At label.at) 0 → BindsNone shapes (label_anchor label)
none_binds shapes label none s listed under =
    none listed.0 (omega arith) (record { shape = s; there = at_contained shapes s listed; on = under.on; fits = under.holds })

-- a label binds one shape
pub one_bound : (shapes : List Shape) (label : Anchor) (s t : Shape) → IsStrictlySortedBy shape_order shapes → Binds shapes label s → Binds shapes label t → s ≡ t
one_bound shapes label s t rises a b =
    let i = a.listed.0 in
    let j = b.listed.0 in
    let at_i = at_contained shapes s a.listed in
    let at_j = at_contained shapes t b.listed in
    elim (cases_lt i j) [
      | inl lt ↦ absurd (b.first s a.listed a.under (sorted_at shape_order shapes i j s t rises at_i at_j lt))
      | inr ge ↦ elim (cases_lt j i) [
        | inl lt ↦ absurd (a.first t b.listed b.under (sorted_at shape_order shapes j i t s rises at_j at_i lt))
        | inr le ↦ let e : i ≡ j = omega (arith, ge, le) in one_at shapes j s t (subst (λ (n : ℕ). slice_get shapes n ≡ Some s) e at_i) at_j
      ]
    ]

-- a label that binds no shape gives none, nor does one that binds a shape which is not as wanted
pub unbound_gives : (wanted : WantedShape) (shapes : List Shape) (pin : List ℕ) (label : PlainLabel) → BindsNone shapes (label_anchor label) → GivesNone wanted shapes pin label
unbound_gives wanted shapes pin label none s g = none s g.binds.listed g.binds.under

pub unwanted_gives : (wanted : WantedShape) (shapes : List Shape) (pin : List ℕ) (label : PlainLabel) (s : Shape) → IsStrictlySortedBy shape_order shapes → Binds shapes (label_anchor label) s → (IsWanted wanted s → ⊥) → GivesNone wanted shapes pin label
unwanted_gives wanted shapes pin label s rises binds not t g = not (subst (IsWanted wanted) (one_bound shapes (label_anchor label) t s rises g.binds binds) g.is)

-- the label at a place
pub plain_at : (labels : List Label) (i : ℕ) (label : Label) → slice_get labels i ≡ Some label → slice_get (map plain_label labels) i ≡ Some (plain_label label)
plain_at labels i label at = slice_get-map plain_label labels i ∙ ap (option_map plain_label) at

-- the first label that gives a shape
pub first_gives : (wanted : WantedShape) (shapes : List Shape) (pin : List ℕ) (labels : List PlainLabel) (i : ℕ) (label : PlainLabel) (s : Shape) → slice_get labels i ≡ Some label → GivesShape wanted shapes pin label s
    → EachBefore (GivesNone wanted shapes pin) labels i → IsFirstCandidate (IsWanted wanted) shapes labels pin s
first_gives wanted shapes pin labels i label s here g before = record {
  place = i;
  bound = record { label = label; there = here; of = g.of; binds = g.binds };
  has = g.is;
  first = λ k other lt bound is. before k bound.label lt bound.there other (record { of = bound.of; binds = bound.binds; is = is });
}

-- no label gives one
pub none_give : (wanted : WantedShape) (shapes : List Shape) (pin : List ℕ) (labels : List PlainLabel) (i : ℕ) → length labels ≤ i → EachBefore (GivesNone wanted shapes pin) labels i → NoCandidate (IsWanted wanted) shapes labels pin
none_give wanted shapes pin labels i all before h =
    let lt = slice_get_within labels h.place h.bound.label h.bound.there in
    before h.place h.bound.label (omega (arith, lt, all)) h.bound.there h.shape (record { of = h.bound.of; binds = h.bound.binds; is = h.has })
