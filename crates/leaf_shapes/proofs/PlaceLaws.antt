-- What stands at a place of a list.
use Rattle.std.proofs.Common.{◌≡◌, inl, inr, ℕ, zero, suc, ◌+◌, ◌<◌, ◌≤◌, List, [], ◌∷◌, length, Some, refl, sym, subst, arith}
use Rattle.std.specs.Prelude.{slice_get, Contains}
use Rattle.std.specs.List.Sorted.{IsStrictlySortedBy}
use Rattle.std.specs.declared.cmp.Ordering.{Ordering}
use Rattle.std.specs.declared.cmp.Ordering.TheVariants.{Less}
use Rattle.std.proofs.lemmas.Bool.{cases_lt}
use Rattle.std.proofs.lemmas.Option.{same_Some, slice_get_read, slice_get_within}
use Rattle.or_geom.proofs.ListLaws.{one_at, contained_at, all_contained}

-- each item before a place has P
abbrev pub EachBefore : {X : Type 0} → (X → Type 0) → List X → ℕ → Type 0
EachBefore {X} P xs i = (k : ℕ) (x : X) → k < i → slice_get xs k ≡ Some x → P x

pub at_contained : {X : Type 0} (xs : List X) (x : X) (h : Contains xs x) → slice_get xs h.0 ≡ Some x
at_contained xs x h = slice_get_read xs _ h.0 x refl h.1 (sym h.2)

-- and the one there
pub each_more : {X : Type 0} (P : X → Type 0) (xs : List X) (i : ℕ) (x : X) → slice_get xs i ≡ Some x → P x → EachBefore P xs i → EachBefore P xs (i + 1)
each_more {X} P xs i x here holds before k y below there = elim (cases_lt k i) [
  | inl lt ↦ before k y lt there
  | inr ge ↦
      let e : i ≡ k = omega arith in
      subst P (one_at xs k x y (subst (λ (j : ℕ). slice_get xs j ≡ Some x) e here) there) holds
]

-- in the end all have it
pub each_contained : {X : Type 0} (P : X → Type 0) (xs : List X) (i : ℕ) → length xs ≤ i → EachBefore P xs i → (x : X) → Contains xs x → P x
each_contained P xs i all before x h = let lt = h.1 in before h.0 x (omega (arith, lt, all)) (at_contained xs x h)

-- of two places in a list in strict order, the later has what comes after
pub sorted_at : {X : Type 0} (order : X → X → Ordering) (xs : List X) (i j : ℕ) (a b : X) → IsStrictlySortedBy order xs → slice_get xs i ≡ Some a → slice_get xs j ≡ Some b → i < j → order a b ≡ Less
unfolding IsStrictlySortedBy
sorted_at order [] i j a b rises x y lt = let within = slice_get_within [] i a x in absurd (omega arith)
sorted_at {X} order (z ∷ zs) zero zero a b rises x y lt = absurd (omega arith)
sorted_at {X} order (z ∷ zs) zero (suc j) a b rises x y lt =
    subst (λ (w : X). order w b ≡ Less) (same_Some z a x) (all_contained (λ w. order z w ≡ Less) zs b rises.0 (contained_at zs j b y))
sorted_at order (z ∷ zs) (suc i) zero a b rises x y lt = absurd (omega arith)
sorted_at order (z ∷ zs) (suc i) (suc j) a b rises x y lt = sorted_at order zs i j a b rises.1 x y (omega arith)
