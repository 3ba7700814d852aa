-- A shape of a list in order is found where it stands, and the marks of all shapes when one more entry comes.
use Rattle.std.proofs.Common.{◌≡◌, inl, inr, ℕ, zero, suc, ◌+◌, ◌<◌, List, [], ◌∷◌, ◌++◌, length, get_or, Option, Some, None, refl, sym, ap, subst, ◌∙◌, arith}
use Rattle.std.specs.Prelude.{Contains, slice_get, slice_set}
use Rattle.std.specs.List.{HoldsAt}
use Rattle.std.specs.List.Sorted.{IsStrictlySortedBy, IsSortedBy, IsNonDecreasingBy, IsPartitionPoint}
use Rattle.std.specs.Ordering.{is_lt, ordering_index, ordering_reverse}
use Rattle.std.specs.declared.cmp.Ordering.{Ordering}
use Rattle.std.specs.declared.cmp.Ordering.TheVariants.{Less, Equal, Greater}
use Rattle.std.proofs.lemmas.Bool.{cases_eq, cases_lt}
use Rattle.std.proofs.lemmas.Cmp.{tied_back, tied_itself}
use Rattle.std.proofs.lemmas.List.Sorted.{searchable_from_sorted}
use Rattle.std.proofs.lemmas.Option.{slice_get-get_or, slice_get_read, slice_get_within}
use Rattle.or_geom.specs.declared.shape.Shape.{Shape}
use Rattle.or_geom.specs.ShapeOrder.{shape_order}
use Rattle.or_geom.proofs.ShapeOrderLaws.{shape_total}
use Rattle.or_geom.proofs.ListLaws.{one_at}
use Rattle.net_extractor.proofs.ExtractLaws.{distinct, earlier_less}
use Rattle.leaf_contacts.specs.declared.marks.Mark.{Mark}
use Rattle.leaf_contacts.specs.declared.stand.ReferenceStep.{ReferenceStep}
use Rattle.leaf_contacts.specs.Marks.{AreMarks, ShapeEntry, IsMark, IsMarkOrNone, shape_entry}
use Rattle.leaf_contacts.proofs.MarkLaws.{other_mark}

sorted_shapes : (shapes : List Shape) → IsStrictlySortedBy shape_order shapes → IsSortedBy (λ a b. is_lt (shape_order a b)) shapes
sorted_shapes shapes rises k d low high =
    let less = earlier_less shape_order shapes k (k + 1) (get_or shapes k d) (get_or shapes (k + 1) d) rises (omega arith) (slice_get-get_or shapes k d (omega (arith, high))) (slice_get-get_or shapes (k + 1) d high) in
    ap is_lt (shape_total.antisymm (get_or shapes (k + 1) d) (get_or shapes k d) ∙ ap ordering_reverse less)

-- a search that finds nothing looks for a shape that isn't there
pub not_found : (shapes : List Shape) (s : Shape) (place : ℕ) → IsStrictlySortedBy shape_order shapes
    → (IsNonDecreasingBy (λ y. ordering_index (shape_order y s)) shapes → IsPartitionPoint (λ y. shape_order y s ≡ Less) (λ y. shape_order y s ≡ Greater) shapes place) → Contains shapes s → ⊥
not_found shapes s place rises parted spot =
    let placed = parted (searchable_from_sorted shape_total (λ (y : Shape). y) shapes s (sorted_shapes shapes rises)) in
    let same : get_or shapes spot.0 s ≡ s = spot.2 in
    let tied : shape_order (get_or shapes spot.0 s) s ≡ Equal = subst (λ (a : Shape). shape_order a s ≡ Equal) (sym same) (tied_itself shape_total s) in
    let inside = spot.1 in
    elim (cases_lt spot.0 place) [
      | inl below ↦ let e : ◌≡◌ {A = Ordering} Less Equal = sym (placed.0 spot.0 s (omega (arith, below)) below) ∙ tied in absurd cc
      | inr above ↦ let e : ◌≡◌ {A = Ordering} Greater Equal = sym (placed.1 spot.0 s above inside) ∙ tied in absurd cc
    ]

-- what a search finds is the shape, which stands somewhere
pub found_shape : (shapes : List Shape) (s : Shape) (place : ℕ) → IsStrictlySortedBy shape_order shapes → place < length shapes → HoldsAt (λ y. shape_order y s ≡ Equal) shapes place → Contains shapes s → slice_get shapes place ≡ Some s
found_shape shapes s place rises lt here spot =
    let inside = spot.1 in
    let at_spot : slice_get shapes spot.0 ≡ Some s = slice_get_read shapes _ spot.0 s refl inside (sym spot.2) in
    let at_place = slice_get-get_or shapes place s lt in
    let tied = here s in
    elim (cases_lt spot.0 place) [
      | inl before ↦
          let less = earlier_less shape_order shapes spot.0 place s (get_or shapes place s) rises before at_spot at_place in
          let e : ◌≡◌ {A = Ordering} Less Equal = sym less ∙ tied_back shape_total (get_or shapes place s) s tied in
          absurd cc
      | inr ge ↦ elim (cases_lt place spot.0) [
        | inl after ↦
            let less = earlier_less shape_order shapes place spot.0 (get_or shapes place s) s rises after at_place at_spot in
            let e : ◌≡◌ {A = Ordering} Less Equal = sym less ∙ tied in
            absurd cc
        | inr le ↦ let e : spot.0 ≡ place = omega (arith, ge, le) in subst (λ (k : ℕ). slice_get shapes k ≡ Some s) e at_spot
      ]
    ]

-- the mark at a place is that of the shape there
pub mark_there : (shapes : List Shape) (entries : List ShapeEntry) (marks : List (Option Mark)) (place : ℕ) (shape : Shape) → slice_get shapes place ≡ Some shape → AreMarks shapes entries marks → IsMarkOrNone entries shape (get_or marks place None)
mark_there shapes entries marks place shape here are =
    let within = slice_get_within shapes place shape here in
    let sized = are.sized in
    are.each place shape (get_or marks place None) here (slice_get-get_or marks place None (omega (arith, within, sized)))

set_same : {X : Type 0} (xs : List X) (i : ℕ) (x : X) → i < length xs → slice_get (slice_set xs i x) i ≡ Some x
set_same [] i x lt = absurd (omega arith)
set_same (y ∷ ys) zero x lt = refl
set_same (y ∷ ys) (suc i) x lt = set_same ys i x (omega arith)

set_other : {X : Type 0} (xs : List X) (i j : ℕ) (x : X) → (j ≡ i → ⊥) → slice_get (slice_set xs i x) j ≡ slice_get xs j
set_other [] i j x other = refl
set_other (y ∷ ys) zero zero x other = absurd (other refl)
set_other (y ∷ ys) zero (suc j) x other = refl
set_other (y ∷ ys) (suc i) zero x other = refl
set_other (y ∷ ys) (suc i) (suc j) x other = set_other ys i j x (λ e. other (ap suc e))

set_long : {X : Type 0} (xs : List X) (i : ℕ) (x : X) → length (slice_set xs i x) ≡ length xs
set_long [] i x = refl
set_long (y ∷ ys) zero x = refl
set_long (y ∷ ys) (suc i) x = ap suc (set_long ys i x)

-- one entry more, whose shape stands at this place
pub marks_more : (shapes : List Shape) (entries : List ShapeEntry) (marks next : List (Option Mark)) (place : ℕ) (shape : Shape) (o : Option (List ReferenceStep)) (made : Mark) → IsStrictlySortedBy shape_order shapes → slice_get shapes place ≡ Some shape
    → next ≡ slice_set marks place (Some made) → IsMark (entries ++ shape_entry shape o ∷ []) shape made → AreMarks shapes entries marks → AreMarks shapes (entries ++ shape_entry shape o ∷ []) next
marks_more shapes entries marks next place shape o made rises here is mark old = record {
  sized = let long = set_long marks place (Some made) in let s = old.sized in ap length is ∙ (long ∙ s);
  each = λ k s m there at. elim (cases_eq k place) [
    | inl same ↦
        let one : shape ≡ s = one_at shapes place shape s here (subst (λ (j : ℕ). slice_get shapes j ≡ Some s) same there) in
        let sized = old.sized in
        let within = slice_get_within shapes place shape here in
        let put : slice_get next place ≡ Some (Some made) = subst (λ (l : List (Option Mark)). slice_get l place ≡ Some (Some made)) (sym is) (set_same marks place (Some made) (omega (arith, sized, within))) in
        let same_mark : Some made ≡ m = one_at next place (Some made) m put (subst (λ (j : ℕ). slice_get next j ≡ Some m) same at) in
        subst (λ (n : Option Mark). IsMarkOrNone (entries ++ shape_entry shape o ∷ []) s n) same_mark (subst (λ (t : Shape). IsMarkOrNone (entries ++ shape_entry shape o ∷ []) t (Some made)) one mark)
    | inr other ↦
        let kept : slice_get marks k ≡ Some m = sym (set_other marks place k (Some made) other) ∙ subst (λ (l : List (Option Mark)). slice_get l k ≡ Some m) is at in
        other_mark entries shape s o m (λ e. other (distinct shapes k place s rises there (subst (λ (t : Shape). slice_get shapes place ≡ Some t) e here))) (old.each k s m there kept)
  ];
}
