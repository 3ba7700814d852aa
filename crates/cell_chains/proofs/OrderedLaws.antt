-- Numbers from 0 on, in any order.
use Rattle.std.proofs.Common.{◌≡◌, ℕ, zero, suc, ◌-◌, ◌+◌, ◌<◌, ◌≤◌, List, [], ◌∷◌, ◌++◌, refl, sym, ap, subst, ◌∙◌, arith}
use Rattle.std.specs.Prelude.{Contains}
use Rattle.std.specs.List.{range_with_len}
use Rattle.std.specs.List.Sorted.{IsPermutation}
use Rattle.std.proofs.lemmas.List.Sorted.{Contains-permutation, IsPermutation-sym}
use Rattle.or_geom.proofs.RangeLaws.{range_more, in_range, range_has}
use Rattle.cell_chains.specs.Ordered.{AreAllBelow}

pub counted_more : (numbers : List ℕ) (n : ℕ) → numbers ≡ range_with_len 0 n → numbers ++ n ∷ [] ≡ range_with_len 0 (n + 1)
counted_more numbers n is =
    let step : n + 1 ≡ suc n = omega arith in
    let more : range_with_len 0 n ++ n ∷ [] ≡ range_with_len 0 (suc n) = sym (range_more 0 n n (omega arith)) in
    ap (λ (l : List ℕ). l ++ n ∷ []) is ∙ (more ∙ ap (λ (k : ℕ). range_with_len 0 k) (sym step))

pub counted_all : (count : ℕ) (numbers : List ℕ) → numbers ≡ range_with_len 0 count → AreAllBelow count numbers
counted_all count numbers is n = (
  λ h. let below = (in_range 0 count n (subst (λ (l : List ℕ). Contains l n) is h)).1 in omega (arith, below),
  λ lt. subst (λ (l : List ℕ). Contains l n) (sym is) (range_has 0 count n (omega arith) (omega (arith, lt))),
)

pub moved_all : (count : ℕ) (numbers moved : List ℕ) → IsPermutation numbers moved → AreAllBelow count numbers → AreAllBelow count moved
moved_all count numbers moved p all n = (
  λ h. (all n).0 (Contains-permutation moved numbers n (IsPermutation-sym numbers moved p) h),
  λ lt. Contains-permutation numbers moved n p ((all n).1 lt),
)

pub moved_counted : (counted numbers moved : List ℕ) → numbers ≡ counted → IsPermutation numbers moved → IsPermutation counted moved
moved_counted counted numbers moved is p = subst (λ (l : List ℕ). IsPermutation l moved) is p

pub permuted_all : (count : ℕ) (numbers : List ℕ) → IsPermutation (range_with_len 0 count) numbers → AreAllBelow count numbers
permuted_all count numbers p = moved_all count (range_with_len 0 count) numbers p (counted_all count (range_with_len 0 count) refl)
