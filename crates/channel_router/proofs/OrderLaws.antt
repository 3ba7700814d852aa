-- The nets in the order that a sort gives.
use Rattle.std.proofs.Common.{◌≡◌, ◌⊎◌, inl, inr, ℕ, zero, suc, ◌+◌, ◌<◌, ◌≤◌, ℤ, pos, ◌<ℤ◌, List, ◌++◌, ◌∷◌, [], length, get_or, false, refl, sym, ap, subst, ◌∙◌, arith}
use Rattle.std.specs.Prelude.{slice_get, Some, IsPermutation, IsSorted}
use Rattle.std.specs.Ordering.{int_cmp, nat_cmp, ordering_then, is_lt}
use Rattle.std.specs.declared.cmp.Ordering.{Ordering}
use Rattle.std.specs.declared.cmp.Ordering.TheVariants.{Less, Equal, Greater}
use Rattle.std.proofs.lemmas.Bool.{cases_lt}
use Rattle.std.proofs.lemmas.Cmp.{int_ranked, ranked, int_cmp_total, nat_cmp_total, on_total, then_total}
use Rattle.std.proofs.lemmas.List.{length-append}
use Rattle.std.proofs.lemmas.List.Sorted.{length_permutation, Contains-permutation, IsPermutation-sym, sorted_far, ranks_by}
use Rattle.std.proofs.lemmas.Option.{slice_get-get_or, slice_get_within, get_or_from_slice_get}
use Rattle.or_geom.proofs.ListLaws.{below_or, contained_at, one_at}
use Rattle.wire_drawing.proofs.SpacingLaws.{two_permuted}
use Rattle.channel_router.specs.declared.channel.Interval.{Interval}
use Rattle.channel_router.specs.Order.{IsTakingOrder}
use Rattle.channel_router.proofs.OccupiedLaws.{pair_cmp}

-- the nets below n in the order of their numbers
pub record AreListed (intervals : List Interval) (order : List (ℤ × ℕ)) (n : ℕ) : Type 0 where
  pub sized : length order ≡ n
  pub at : (i : ℕ) (a : Interval) → i < n → slice_get intervals i ≡ Some a → slice_get order i ≡ Some (a.left, i)

pair_is : (x y : ℤ) (i j : ℕ) → x ≡ y → i ≡ j → ◌≡◌ {A = ℤ × ℕ} (x, i) (y, j)
pair_is x y i j e f = λ k. (e k, f k)

not_first : (x y : ℤ × ℕ) → is_lt (pair_cmp y x) ≡ false → (x.0 <ℤ y.0) ⊎ ((x.0 ≡ y.0) × (x.1 ≤ y.1))
not_first x y is = by (int_cmp y.0 x.0) refl is where
  by_nat : (o : Ordering) → o ≡ nat_cmp y.1 x.1 → is_lt o ≡ false → x.1 ≤ y.1
  by_nat Less e is = absurd cc
  by_nat Equal e is = let same = ranked y.1 x.1 Equal e in omega (arith, same)
  by_nat Greater e is = let lt = ranked y.1 x.1 Greater e in omega (arith, lt)

  by : (o : Ordering) → o ≡ int_cmp y.0 x.0 → is_lt (ordering_then o (nat_cmp y.1 x.1)) ≡ false → (x.0 <ℤ y.0) ⊎ ((x.0 ≡ y.0) × (x.1 ≤ y.1))
  by Less e is = absurd cc
  by Equal e is = inr (sym (int_ranked y.0 x.0 Equal e), by_nat (nat_cmp y.1 x.1) refl is)
  by Greater e is = inl (int_ranked y.0 x.0 Greater e)

listed_only : (intervals : List Interval) (order : List (ℤ × ℕ)) (p i : ℕ) (x : ℤ) → AreListed intervals order (length intervals) → slice_get order p ≡ Some (x, i) → (i ≡ p) × ((a : Interval) × (slice_get intervals p ≡ Some a) × (x ≡ a.left))
listed_only intervals order p i x listed at_p =
    let none : Interval = record { left = pos 0; right = pos 0 } in
    let inside : p < length intervals = let lt = slice_get_within order p (x, i) at_p in let e = listed.sized in omega (arith, lt, e) in
    let here = slice_get-get_or intervals p none inside in
    let e = one_at order p (x, i) ((get_or intervals p none).left, p) at_p (listed.at p (get_or intervals p none) inside here) in
    (ap (λ (z : ℤ × ℕ). z.1) e, (get_or intervals p none, here, ap (λ (z : ℤ × ℕ). z.0) e))

-- the next net
pub listed_more : (intervals : List Interval) (order new : List (ℤ × ℕ)) (n : ℕ) (a : Interval) → slice_get intervals n ≡ Some a → new ≡ order ++ (a.left, n) ∷ [] → AreListed intervals order n → AreListed intervals new (n + 1)
listed_more intervals order new n a there grown listed = record {
  sized = ap length grown ∙ length-append order ((a.left, n) ∷ []) ∙ ap (λ (m : ℕ). m + 1) listed.sized;
  at = λ i c lt at_i. ap (λ (l : List (ℤ × ℕ)). slice_get l i) grown ∙ by i c lt at_i;
} where
  last : (l : List (ℤ × ℕ)) (z : ℤ × ℕ) (i : ℕ) → i ≡ length l → slice_get (l ++ z ∷ []) i ≡ Some z
  last [] z zero e = refl
  last [] z (suc i) e = absurd (omega (arith, e))
  last (y ∷ ys) z zero e = absurd (omega (arith, e))
  last (y ∷ ys) z (suc i) e = last ys z i (omega (arith, e))

  first : (l : List (ℤ × ℕ)) (z y : ℤ × ℕ) (i : ℕ) → slice_get l i ≡ Some y → slice_get (l ++ z ∷ []) i ≡ Some y
  first [] z y i e = absurd cc
  first (w ∷ ws) z y zero e = e
  first (w ∷ ws) z y (suc i) e = first ws z y i e

  by : (i : ℕ) (c : Interval) → i < n + 1 → slice_get intervals i ≡ Some c → slice_get (order ++ (a.left, n) ∷ []) i ≡ Some (c.left, i)
  by i c lt at_i = elim (below_or i n lt) [
    | inl less ↦ first order (a.left, n) (c.left, i) i (listed.at i c less at_i)
    | inr same ↦
        let e = one_at intervals n a c there (ap (λ (q : ℕ). slice_get intervals q) (sym same) ∙ at_i) in
        last order (a.left, n) i (let z = listed.sized in omega (arith, same, z)) ∙ ap Some (pair_is a.left c.left n i (ap (λ (d : Interval). d.left) e) (sym same))
  ]

pub sorted_is_order : (intervals : List Interval) (order sorted : List (ℤ × ℕ)) → AreListed intervals order (length intervals) → IsPermutation order sorted → IsSorted pair_cmp sorted → IsTakingOrder intervals sorted
sorted_is_order intervals order sorted listed permutation rises = record {
  sized = length_permutation order sorted permutation ∙ listed.sized;
  each = λ i a at_i.
      let inside = slice_get_within intervals i a at_i in
      let there = Contains-permutation order sorted (a.left, i) permutation (contained_at order i (a.left, i) (listed.at i a inside at_i)) in
      (there.0, slice_get-get_or sorted there.0 (a.left, i) there.1 ∙ ap Some there.2);
  only = λ p i x at_p.
      let there = Contains-permutation sorted order (x, i) (IsPermutation-sym order sorted permutation) (contained_at sorted p (x, i) at_p) in
      let found = listed_only intervals order there.0 i x listed (slice_get-get_or order there.0 (x, i) there.1 ∙ ap Some there.2) in
      (found.1.0, ap (λ (q : ℕ). slice_get intervals q) found.0 ∙ found.1.1, found.1.2);
  rises = λ p q i j x y lt at_p at_q.
      let none : ℤ × ℕ = (pos 0, 0) in
      let in_q = slice_get_within sorted q (y, j) at_q in
      let far = sorted_far (λ (a c : ℤ × ℕ). is_lt (pair_cmp a c)) (ranks_by (then_total (on_total (λ (z : ℤ × ℕ). z.0) int_cmp_total) (on_total (λ (z : ℤ × ℕ). z.1) nat_cmp_total)) (λ (z : ℤ × ℕ). z)) sorted rises p q none (omega (arith, lt)) in_q in
      let e_p = get_or_from_slice_get sorted p (x, i) none at_p in
      let e_q = get_or_from_slice_get sorted q (y, j) none at_q in
      let test : is_lt (pair_cmp (y, j) (x, i)) ≡ false = subst (λ (z : ℤ × ℕ). is_lt (pair_cmp z (x, i)) ≡ false) e_q (subst (λ (z : ℤ × ℕ). is_lt (pair_cmp (get_or sorted q none) z) ≡ false) e_p far) in
      elim (not_first (x, i) (y, j) test) [
        | inl less ↦ inl less
        | inr same ↦ inr (same.0, differ p q i j x y lt at_p at_q same.0 same.1)
      ];
} where
  differ : (p q i j : ℕ) (x y : ℤ) → p < q → slice_get sorted p ≡ Some (x, i) → slice_get sorted q ≡ Some (y, j) → x ≡ y → i ≤ j → i < j
  differ p q i j x y lt at_p at_q same le = elim (cases_lt i j) [
    | inl less ↦ less
    | inr ge ↦
        let one : i ≡ j = omega (arith, le, ge) in
        let pair : slice_get sorted q ≡ Some (x, i) = at_q ∙ ap Some (pair_is y x j i (sym same) (sym one)) in
        let two = two_permuted sorted order (x, i) (x, i) (IsPermutation-sym order sorted permutation) (record { i = p; j = q; differ = λ e. omega (arith, lt, e); first = at_p; second = pair }) in
        let first = listed_only intervals order two.i i x listed two.first in
        let second = listed_only intervals order two.j i x listed two.second in
        absurd (two.differ (sym first.0 ∙ second.0))
  ]
