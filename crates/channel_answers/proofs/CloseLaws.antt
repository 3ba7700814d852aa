-- Of numbers either no two are close, or there are the lowest two that are.
use Rattle.std.proofs.Common.{◌⊎◌, inl, inr, ℕ, zero, suc, ◌+◌, ◌-◌, ◌<◌, ◌≤◌, ℤ, pos, ◌+ℤ◌, ◌≤ℤ◌, List, length, get_or, sym, subst, arith}
use Rattle.std.specs.Prelude.{IsSorted}
use Rattle.std.specs.Ordering.{int_cmp}
use Rattle.std.proofs.lemmas.Bool.{cases_lt}
use Rattle.std.proofs.lemmas.Cmp.{int_cmp_total}
use Rattle.std.proofs.lemmas.Int.{by_lt_z}
use Rattle.std.proofs.lemmas.List.Sorted.{IsPermutation-sym}
use Rattle.or_geom.proofs.ListLaws.{below_or}
use Rattle.channel_answers.proofs.OrderLaws.{sorted_there}
use Rattle.wire_drawing.specs.Spacing.{AreClose, AreFirstClose}
use Rattle.wire_drawing.proofs.SpacingLaws.{AreApartBelow, close_permuted, first_close_at, first_permuted, none_close}

abbrev pub FirstCloseOrNone : ℤ → List ℤ → Type 0
FirstCloseOrNone pitch xs = (AreClose pitch xs → ⊥) ⊎ ((x : ℤ) × (y : ℤ) × AreFirstClose pitch xs x y)

-- in a list in order, whose items below k are apart
from_place : (pitch : ℤ) (xs : List ℤ) (left k : ℕ) → IsSorted int_cmp xs → 0 < k → length xs ≤ left + k → AreApartBelow pitch xs k
    → FirstCloseOrNone pitch xs
from_place pitch xs zero k sorted some all apart = inl (none_close pitch xs k sorted (omega (arith, all)) apart)
from_place pitch xs (suc left) k sorted some all apart = elim (cases_lt k (length xs)) [
  | inr ge ↦ inl (none_close pitch xs k sorted ge apart)
  | inl lt ↦ by_lt_z {P = FirstCloseOrNone pitch xs} (get_or xs k (pos 0)) (get_or xs (k - 1) (pos 0) +ℤ pitch)
      (λ near. inr (get_or xs (k - 1) (pos 0), get_or xs k (pos 0), first_close_at pitch xs k sorted some lt apart near))
      (λ far. from_place pitch xs left (k + 1) sorted (omega arith) (omega (arith, all)) (λ m positive below. elim (below_or m k below) [
        | inl less ↦ apart m positive less
        | inr same ↦ subst (λ (n : ℕ). (get_or xs (n - 1) (pos 0) +ℤ pitch) ≤ℤ get_or xs n (pos 0)) (sym same) far
      ]))
]

pub first_close_or_none : (pitch : ℤ) (xs : List ℤ) → FirstCloseOrNone pitch xs
first_close_or_none pitch xs =
    let sorted = sorted_there int_cmp int_cmp_total xs in
    let ys = sorted.0 in
    let back = IsPermutation-sym xs ys sorted.1 in
    elim (from_place pitch ys (length ys) 1 sorted.2 (omega arith) (omega arith) (λ m positive below. absurd (omega (arith, positive, below)))) [
      | inl none ↦ inl (λ close. none (close.0, close.1, close_permuted pitch xs ys close.0 close.1 sorted.1 close.2))
      | inr first ↦ inr (first.0, first.1, first_permuted pitch ys xs first.0 first.1 back first.2)
    ]
