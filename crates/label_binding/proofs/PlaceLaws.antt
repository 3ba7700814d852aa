-- What stands at a place of a list.
use Rattle.std.proofs.Common.{◌≡◌, inl, inr, ℕ, ◌+◌, ◌<◌, List, refl, sym, subst, arith, Some}
use Rattle.std.specs.Prelude.{slice_get, Contains}
use Rattle.std.proofs.lemmas.Bool.{cases_lt}
use Rattle.std.proofs.lemmas.Option.{slice_get_read}
use Rattle.or_geom.proofs.ListLaws.{one_at}

-- what holds of each item before a place, and of the one there, holds of each before the next place
pub each_more : {X : Type 0} (P : ℕ → X → Type 0) (xs : List X) (i : ℕ) (x : X) → slice_get xs i ≡ Some x → P i x → ((k : ℕ) (y : X) → k < i → slice_get xs k ≡ Some y → P k y)
    → (k : ℕ) (y : X) → k < i + 1 → slice_get xs k ≡ Some y → P k y
each_more {X} P xs i x here holds before k y below there = elim (cases_lt k i) [
  | inl lt ↦ before k y lt there
  | inr ge ↦
      let e : i ≡ k = omega arith in
      let same : x ≡ y = one_at xs k x y (subst (λ (j : ℕ). slice_get xs j ≡ Some x) e here) there in
      subst (λ (z : X). P k z) same (subst (λ (j : ℕ). P j x) e holds)
]

pub at_contained : {X : Type 0} (xs : List X) (x : X) (h : Contains xs x) → slice_get xs h.0 ≡ Some x
at_contained xs x h = slice_get_read xs _ h.0 x refl h.1 (sym h.2)
