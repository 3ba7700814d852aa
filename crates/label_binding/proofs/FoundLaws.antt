-- Labels that are looked up one after another, in any order.
use Rattle.std.proofs.Common.{◌≡◌, inl, inr, ℕ, ◌+◌, ◌<◌, ◌≤◌, List, [], ◌∷◌, ◌++◌, length, get_or, set, sym, ap, subst, ◌∙◌, arith, get_or-set_same, get_or-set_other}
use Rattle.std.specs.Prelude.{Option, Some, Contains, slice_get, MatchOption}
use Rattle.std.proofs.lemmas.Bool.{cases_eq, cases_lt}
use Rattle.std.proofs.lemmas.List.{length-set}
use Rattle.std.proofs.lemmas.Option.{slice_get_within, slice_get-get_or, get_or_from_slice_get}
use Rattle.or_geom.specs.declared.shape.Shape.{Shape}
use Rattle.or_geom.proofs.ListLaws.{contained_at, one_at}
use Rattle.cell_hierarchy.specs.declared.flat.Label.{Label}
use Rattle.cell_hierarchy.specs.Plain.{plain_label}
use Rattle.cell_hierarchy.proofs.CellLaws.{after_push, length_pushed}
use Rattle.shape_bins.specs.Order.{IsOrderAdded}
use Rattle.label_binding.specs.declared.anchor.Anchor.{Anchor}
use Rattle.label_binding.specs.Binding.{BindsNone}
use Rattle.label_binding.specs.Bound.{IsBoundAt}
use Rattle.label_binding.specs.BoundPlaces.{label_anchor, IsFoundUnder, AreBoundPlaces}
use Rattle.label_binding.proofs.PlaceLaws.{at_contained}

-- what the list has at a place after a change there
changed_here : {X : Type 0} (xs : List X) (place : ℕ) (x y : X) → slice_get (set xs place x) place ≡ Some y → x ≡ y
changed_here xs place x y there =
    let lt = slice_get_within (set xs place x) place y there in
    let sized = length-set xs place x in
    sym (get_or-set_same xs place x y (omega (arith, lt, sized))) ∙ get_or_from_slice_get (set xs place x) place y y there

-- and what it had at the others
kept_elsewhere : {X : Type 0} (xs : List X) (place other : ℕ) (x y : X) → (other ≡ place → ⊥) → slice_get (set xs place x) other ≡ Some y → slice_get xs other ≡ Some y
kept_elsewhere xs place other x y differ there =
    let lt = slice_get_within (set xs place x) other y there in
    let sized = length-set xs place x in
    slice_get-get_or xs other y (omega (arith, lt, sized)) ∙ ap (λ z. Some z) (sym (get_or-set_other xs place other x y differ) ∙ get_or_from_slice_get (set xs place x) other y y there)

-- what was found for the anchor where the label stands
pub found_by : (shapes : List Shape) (label : Label) (anchor : Anchor) (found : Option ℕ) → anchor ≡ label_anchor (plain_label label) → MatchOption found (BindsNone shapes anchor) (IsBoundAt shapes anchor) → IsFoundUnder shapes label found
found_by shapes label anchor found at right = subst (λ (a : Anchor). MatchOption found (BindsNone shapes a) (IsBoundAt shapes a)) at right

-- what stands at the index is what the label there binds
abbrev pub IsFoundAt : List Shape → List Label → List (Option ℕ) → ℕ → Type 0
IsFoundAt shapes labels places index = (label : Label) (found : Option ℕ) → slice_get labels index ≡ Some label → slice_get places index ≡ Some found → IsFoundUnder shapes label found

-- so it is at the first indices of the order
pub record AreFoundFirst (shapes : List Shape) (labels : List Label) (order : List ℕ) (count : ℕ) (places : List (Option ℕ)) : Type 0 where
  pub sized : length places ≡ length labels
  pub each : (k index : ℕ) → k < count → slice_get order k ≡ Some index → IsFoundAt shapes labels places index

-- what the label at an index binds is set there
module _ (shapes : List Shape) (labels : List Label) (places : List (Option ℕ)) (index : ℕ) (label : Label) (found : Option ℕ) (is : slice_get labels index ≡ Some label) (right : IsFoundUnder shapes label found) where
  found_here : IsFoundAt shapes labels (set places index found) index
  found_here other now here there =
      let same : label ≡ other = one_at labels index label other is here in
      let set_to : found ≡ now = changed_here places index found now there in
      subst (λ (l : Label). IsFoundUnder shapes l now) same (subst (IsFoundUnder shapes label) set_to right)

  found_still : (k : ℕ) → IsFoundAt shapes labels places k → IsFoundAt shapes labels (set places index found) k
  found_still k before other now here there = elim (cases_eq k index) [
    | inl e ↦ found_here other now (subst (λ (j : ℕ). slice_get labels j ≡ Some other) e here) (subst (λ (j : ℕ). slice_get (set places index found) j ≡ Some now) e there)
    | inr ne ↦ before other now here (kept_elsewhere places index k found now ne there)
  ]

  found_more : (order : List ℕ) (count : ℕ) → slice_get order count ≡ Some index → AreFoundFirst shapes labels order count places → AreFoundFirst shapes labels order (count + 1) (set places index found)
  found_more order count next a = record {
    sized = length-set places index found ∙ a.sized;
    each = λ k j lt at_k. elim (cases_lt k count) [
      | inl earlier ↦ found_still j (a.each k j earlier at_k)
      | inr ge ↦
          let e : k ≡ count = omega arith in
          let same : index ≡ j = one_at order count index j next (subst (λ (n : ℕ). slice_get order n ≡ Some j) e at_k) in
          subst (IsFoundAt shapes labels (set places index found)) same found_here
    ];
  }

-- each index below the count stands in the order
listed : (count : ℕ) (order : List ℕ) (index : ℕ) → IsOrderAdded 0 count [] order → index < count → Contains order index
listed count order index o lt = subst (λ (l : List ℕ). Contains l index) (sym o.is) ((o.each index).1 (omega arith, lt))

-- and no other
within : (count : ℕ) (order : List ℕ) (k index : ℕ) → IsOrderAdded 0 count [] order → slice_get order k ≡ Some index → index < count
within count order k index o is = ((o.each index).0 (subst (λ (l : List ℕ). Contains l index) o.is (contained_at order k index is))).1

-- the next index of the order
pub next_within : (count : ℕ) (order : List ℕ) (k : ℕ) → IsOrderAdded 0 count [] order → k < length order → get_or order k 0 < count
next_within count order k o lt = within count order k (get_or order k 0) o (slice_get-get_or order k 0 lt)

-- what the label at the next index of the order binds is set there
pub found_next : (shapes : List Shape) (labels : List Label) (places : List (Option ℕ)) (order : List ℕ) (count : ℕ) (d : Label) (found : Option ℕ) → IsOrderAdded 0 (length labels) [] order → count < length order
    → IsFoundUnder shapes (get_or labels (get_or order count 0) d) found → AreFoundFirst shapes labels order count places → AreFoundFirst shapes labels order (count + 1) (set places (get_or order count 0) found)
found_next shapes labels places order count d found o lt right a =
    let index = get_or order count 0 in
    found_more shapes labels places index (get_or labels index d) found (slice_get-get_or labels index d (next_within (length labels) order count o lt)) right order count (slice_get-get_or order count 0 lt) a

-- and in the end each label has what it binds
pub found_all : (shapes : List Shape) (labels : List Label) (order : List ℕ) (count : ℕ) (places : List (Option ℕ)) → IsOrderAdded 0 (length labels) [] order → length order ≤ count → AreFoundFirst shapes labels order count places → AreBoundPlaces shapes labels places
found_all shapes labels order count places o le a = record {
  sized = a.sized;
  each = λ index label found here there.
      let h = listed (length labels) order index o (slice_get_within labels index label here) in
      let lt = h.1 in
      a.each h.0 index (omega (arith, lt, le)) (at_contained order index h) label found here there;
}

-- So it is at the first indices of the labels, for whose places the list has been pushed.
pub record AreFoundUpTo (shapes : List Shape) (labels : List Label) (count : ℕ) (places : List (Option ℕ)) : Type 0 where
  pub sized : length places ≡ count
  pub each : (index : ℕ) → IsFoundAt shapes labels places index

pub none_found : (shapes : List Shape) (labels : List Label) (places : List (Option ℕ)) → places ≡ [] → AreFoundUpTo shapes labels 0 places
none_found shapes labels places is = record {
  sized = ap (λ (l : List (Option ℕ)). length l) is;
  each = λ index label found here there. let at : slice_get [] index ≡ Some found = subst (λ (l : List (Option ℕ)). slice_get l index ≡ Some found) is there in absurd (omega (arith, slice_get_within [] index found at));
}

-- and after the next push
pub found_pushed : (shapes : List Shape) (labels : List Label) (places next : List (Option ℕ)) (count : ℕ) (d : Label) (found : Option ℕ) → count < length labels → IsFoundUnder shapes (get_or labels count d) found
    → next ≡ places ++ found ∷ [] → AreFoundUpTo shapes labels count places → AreFoundUpTo shapes labels (count + 1) next
found_pushed shapes labels places next count d found lt right pushed a = record {
  sized = length_pushed places found next pushed ∙ ap (λ n. n + 1) a.sized;
  each = λ index other now here there. elim (after_push places found index now (subst (λ (l : List (Option ℕ)). slice_get l index ≡ Some now) pushed there)) [
    | inl before ↦ a.each index other now here before
    | inr last ↦
        let label = get_or labels count d in
        let is = slice_get-get_or labels count d lt in
        let same : label ≡ other = one_at labels index label other (subst (λ (k : ℕ). slice_get labels k ≡ Some label) (sym a.sized ∙ sym last.place) is) here in
        subst (λ (o : Option ℕ). IsFoundUnder shapes other o) (sym last.is) (subst (λ (l : Label). IsFoundUnder shapes l found) same right)
  ];
}

-- and in the end each label has what it binds
pub found_each : (shapes : List Shape) (labels : List Label) (count : ℕ) (places : List (Option ℕ)) → count ≤ length labels → length labels ≤ count → AreFoundUpTo shapes labels count places → AreBoundPlaces shapes labels places
found_each shapes labels count places le ge a = record {
  sized = omega (arith, le, ge, a.sized);
  each = λ index label found here there. a.each index label found here there;
}
