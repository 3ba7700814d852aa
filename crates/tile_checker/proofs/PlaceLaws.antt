-- Places in a list in strict order, and the rectangles of a layer.
use Rattle.std.proofs.Common.{◌↔◌, ◌≡◌, inl, inr, ℕ, zero, suc, ◌+◌, ◌<◌, List, [], ◌∷◌, length, get_or, drop, Some, refl, sym, ap, subst, ◌∙◌, arith}
use Rattle.std.specs.Prelude.{Contains, slice_get}
use Rattle.std.specs.Cmp.{IsTotalOrder}
use Rattle.std.specs.List.Sorted.{IsStrictlySortedBy}
use Rattle.std.specs.declared.cmp.Ordering.{Ordering}
use Rattle.std.specs.declared.cmp.Ordering.TheVariants.{Less}
use Rattle.std.proofs.lemmas.Bool.{cases_lt}
use Rattle.std.proofs.lemmas.Option.{same_Some, slice_get_within, slice_get_read, slice_get-get_or, get_or_from_slice_get}
use Rattle.or_geom.specs.declared.shape.Shape.{Shape}
use Rattle.or_geom.specs.Distance.{IsReachable}
use Rattle.or_geom.proofs.ListLaws.{contains_none, contains_cases, contained_at, all_contained, rest_at}
use Rattle.or_geom.proofs.OneListLaws.{not_both}
use Rattle.or_geom.specs.Adds.{Adds}
use Rattle.or_geom.specs.Gathering.{SomeHas}
use Rattle.or_geom.proofs.GatheringLaws.{IsAmongLeft, among_found, among_goes_on}
use Rattle.or_geom.specs.Reachable.{AreReachable}

-- of two places in a list in strict order, the later has what comes after
pub sorted_at : {X : Type 0} (order : X → X → Ordering) (xs : List X) (i j : ℕ) (a b : X) → IsStrictlySortedBy order xs → slice_get xs i ≡ Some a → slice_get xs j ≡ Some b → i < j → order a b ≡ Less
unfolding IsStrictlySortedBy
sorted_at order [] i j a b rises x y lt = let within = slice_get_within [] i a x in absurd (omega arith)
sorted_at {X} order (z ∷ zs) zero zero a b rises x y lt = absurd (omega arith)
sorted_at {X} order (z ∷ zs) zero (suc j) a b rises x y lt =
    subst (λ (w : X). order w b ≡ Less) (same_Some z a x) (all_contained (λ w. order z w ≡ Less) zs b rises.0 (contained_at zs j b y))
sorted_at order (z ∷ zs) (suc i) zero a b rises x y lt = absurd (omega arith)
sorted_at order (z ∷ zs) (suc i) (suc j) a b rises x y lt = sorted_at order zs i j a b rises.1 x y (omega arith)

-- what comes after stands at a later place
pub later_place : {X : Type 0} (order : X → X → Ordering) (xs : List X) (i j : ℕ) (a b : X) → IsTotalOrder order → IsStrictlySortedBy order xs → slice_get xs i ≡ Some a → slice_get xs j ≡ Some b → order a b ≡ Less → i < j
later_place {X} order xs i j a b total rises x y less = elim (cases_lt i j) [
  | inl lt ↦ lt
  | inr ge ↦ elim (cases_lt j i) [
    | inl lt ↦ absurd (not_both order total a b less (sorted_at order xs j i b a rises y x lt))
    | inr le ↦
        let same : i ≡ j = omega (arith, ge, le) in
        let e : a ≡ b = same_Some a b (sym x ∙ (ap (slice_get xs) same ∙ y)) in
        let self : order b b ≡ Less = subst (λ (w : X). order w b ≡ Less) e less in
        absurd (not_both order total b b self self)
  ]
]

-- the place of what stands in a list
pub place_of : {X : Type 0} (xs : List X) (x : X) → Contains xs x → (k : ℕ) × (slice_get xs k ≡ Some x)
place_of xs x h = (h.0, slice_get_read xs (length xs) h.0 x refl h.1 (sym h.2))

pub reachable_in : (shapes : List Shape) (s : Shape) → AreReachable shapes → Contains shapes s → IsReachable s.rect
reachable_in [] s all h = absurd (contains_none s h)
reachable_in (t ∷ ts) s all h = elim (contains_cases t ts s h) [
  | inl e ↦ subst (λ (u : Shape). IsReachable u.rect) (sym e) all.0
  | inr k ↦ reachable_in ts s all.1 k
]

-- the item at a place, whatever is read where there is none
item_is : {X : Type 0} (xs : List X) (i : ℕ) (d : X) → i < length xs → get_or xs i d ≡ get_or xs i (get_or xs i d)
item_is xs i d lt = sym (get_or_from_slice_get xs i (get_or xs i d) (get_or xs i d) (slice_get-get_or xs i d lt))

pub item_in : {X : Type 0} (xs : List X) (i : ℕ) (d : X) → i < length xs → Contains xs (get_or xs i d)
item_in xs i d lt = (i, lt, sym (item_is xs i d lt))

pub item_found : {X : Type 0} (has : X → Type 0) (xs : List X) (i : ℕ) (d : X) → i < length xs → has (get_or xs i d) → SomeHas has xs
item_found has xs i d lt p = among_found has xs i (get_or xs i d) lt (item_is xs i d lt) p

pub item_passed : {X : Type 0} (has : X → Type 0) (xs : List X) (i : ℕ) (d : X) → i < length xs → (has (get_or xs i d) → ⊥) → IsAmongLeft has xs i → IsAmongLeft has xs (i + 1)
item_passed has xs i d lt none left = among_goes_on has xs i (get_or xs i d) lt (item_is xs i d lt) none left

-- what was added to an empty list is what it holds
pub adds_all : {X : Type 0} (all : List X) (P : X → Type 0) → Adds [] all P → (v : X) → Contains all v ↔ P v
adds_all {X} all P a v = (λ h. a.only v (subst (λ (l : List X). Contains l v) a.is h), λ p. subst (λ (l : List X). Contains l v) (sym a.is) (a.each v p))
