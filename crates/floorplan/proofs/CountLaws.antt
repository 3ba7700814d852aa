-- The counts of a plan, and multiples of the pitch.
use Rattle.std.proofs.Common.{◌≡◌, inl, inr, ℕ, zero, suc, ◌+◌, ◌*◌, ◌<◌, ◌≤◌, ℤ, pos, ◌*ℤ◌, Bool, cond, List, [], ◌∷◌, length, get_or, refl, ap, subst, arith}
use Rattle.std.specs.List.{AllByRecursion}
use Rattle.std.proofs.Math.Nat.{mul-le-mul_left}
use Rattle.std.proofs.lemmas.Bool.{lt-ltb}
use Rattle.sram_netlist.specs.Organization.{power_of_two, IsGroupSize}
use Rattle.sram_plan.specs.PlanNumbers.{used_groups}
use Rattle.macro_layout.specs.Floorplan.{line_count, choice_count}

used_first : (b : ℕ) (bs : List ℕ) → used_groups (suc b ∷ bs) ≡ suc b ∷ used_groups bs
used_first b bs = ap (λ (t : Bool). cond t (suc b ∷ used_groups bs) (used_groups bs)) (lt-ltb 0 (suc b) (omega arith))

-- the lines of a group that may not be used
pub lines_first : (b : ℕ) (bs : List ℕ) → line_count (used_groups (b ∷ bs)) ≡ choice_count b + line_count (used_groups bs)
lines_first zero bs = omega arith
lines_first (suc b) bs = rw (used_first b bs) refl

pub three_lines : (gs : List ℕ) → length gs ≡ 3 → line_count (used_groups gs) ≡ choice_count (get_or gs 0 0) + choice_count (get_or gs 1 0) + choice_count (get_or gs 2 0)
three_lines [] n = absurd (omega arith)
three_lines (a ∷ []) n = absurd (omega arith)
three_lines (a ∷ b ∷ []) n = absurd (omega arith)
three_lines (a ∷ b ∷ c ∷ []) n =
    let first = lines_first a (b ∷ c ∷ []) in
    let second = lines_first b (c ∷ []) in
    let third = lines_first c [] in
    omega (arith, first, second, third)
three_lines (a ∷ b ∷ c ∷ d ∷ ds) n = absurd (omega arith)

small : (b : ℕ) → IsGroupSize b → b ≤ 3
small b (inl is) = omega arith
small b (inr is) = omega arith

small_first : (b : ℕ) (bs : List ℕ) → AllByRecursion IsGroupSize (used_groups (b ∷ bs)) → (b ≤ 3) × AllByRecursion IsGroupSize (used_groups bs)
small_first zero bs all = (omega arith, all)
small_first (suc b) bs all = let both = subst (AllByRecursion IsGroupSize) (used_first b bs) all in (small (suc b) both.0, both.1)

-- each group has three bits at most
pub small_groups : (gs : List ℕ) (k : ℕ) → AllByRecursion IsGroupSize (used_groups gs) → get_or gs k 0 ≤ 3
small_groups [] k all = omega arith
small_groups (b ∷ bs) zero all = (small_first b bs all).0
small_groups (b ∷ bs) (suc k) all = small_groups bs k (small_first b bs all).1

few_choices : (b : ℕ) → b ≤ 3 → choice_count b ≤ 8
few_choices zero le = omega arith
few_choices (suc zero) le = omega arith
few_choices (suc (suc zero)) le = omega arith
few_choices (suc (suc (suc zero))) le = omega arith
few_choices (suc (suc (suc (suc b)))) le = absurd (omega arith)

pub counted : (b n : ℕ) → b ≤ 3 → n ≡ choice_count b → n ≤ 8
counted b n le is = let few = few_choices b le in omega (arith, few, is)

pub none_of : (b : ℕ) → b ≡ 0 → 0 ≡ choice_count b
none_of zero is = refl
none_of (suc b) is = absurd (omega arith)

pub some_of : (b : ℕ) → (b ≡ 0 → ⊥) → power_of_two b ≡ choice_count b
some_of zero other = absurd (other refl)
some_of (suc b) other = refl

-- at most so many times 2^17
pub pitches_bound : (n p : ℕ) → p ≤ 131072 → n * p ≤ n * 131072
pitches_bound n p high = mul-le-mul_left n high

-- at most 2^24
pub extent_bound : (n side : ℕ) → n ≤ 256 → side ≤ 65536 → n * side ≤ 16777216
extent_bound n side le high = let more = mul-le-mul_left n high in omega (arith, more, le)

pub pitches_are : (n p : ℕ) (pitch : ℤ) → pos p ≡ pitch → pos (n * p) ≡ pos n *ℤ pitch
pitches_are n p pitch is = ap (λ (z : ℤ). pos n *ℤ z) is

pub some_product : (a b : ℕ) → 0 < a → 0 < b → 0 < a * b
some_product zero b first second = absurd (omega (arith, first))
some_product (suc a) zero first second = absurd (omega (arith, second))
some_product (suc a) (suc b) first second = omega arith
