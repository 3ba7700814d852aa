-- What holds of all names of a list of ports, and what stands in it.
use Rattle.std.proofs.Common.{◌≡◌, ◌⊎◌, inl, inr, ℕ, zero, suc, ◌+◌, ◌*◌, ◌/◌, ◌<◌, ◌≤◌, Bool, true, false, cond, List, [], ◌∷◌, ◌++◌, length, refl, arith}
use Rattle.std.specs.Prelude.{codes}
use Rattle.std.specs.List.{AllByRecursion}
use Rattle.std.proofs.lemmas.Bool.{cases_lt}
use Rattle.sram_netlist.specs.Organization.{Organization, power_of_two, columns_of, IsBuildable, IsGroupSize}
use Rattle.sram_netlist.specs.Netlist.{low_bits, high_bits, lowest_bit}
use Rattle.sram_netlist.specs.Names.{with_number, with_numbers}
use Rattle.sram_netlist.specs.InstanceList.{numbers_from, tabulate, tabulate_lists}
use Rattle.sram_netlist.proofs.Bounds.{twice_up}
use Rattle.row_laws.proofs.LookLaws.{IsOneOf, one_left, one_right, one_map, one_flat, all_append, all_map, all_flat}
use Rattle.std.specs.Fmt.{decimal}
use Rattle.sram_rows.proofs.DigitLaws.{IsPlain, plain_tail}
use Rattle.sram_deck.specs.Deck.{predecode_lines, predecode_lines_from, column_bit_lines, all_bit_lines, column_choices, row_lines_from}

pub all_numbers : (P : ℕ → Type 0) (k n : ℕ) → ((j : ℕ) → k ≤ j → j < k + n → P j) → AllByRecursion P (numbers_from k n)
all_numbers P k zero h = tt
all_numbers P k (suc n) h = (h k (omega arith) (omega arith), all_numbers P (suc k) n (λ j a b. h j (omega arith) (omega arith)))

pub all_tabulate : {X : Type 0} (P : X → Type 0) (n : ℕ) (f : ℕ → X) → ((j : ℕ) → j < n → P (f j)) → AllByRecursion P (tabulate n f)
all_tabulate P n f h = all_map P f (numbers_from 0 n) (all_numbers (λ j. P (f j)) 0 n (λ j a b. h j (omega arith)))

pub all_tabulate_lists : {X : Type 0} (P : X → Type 0) (n : ℕ) (f : ℕ → List X) → ((j : ℕ) → j < n → AllByRecursion P (f j)) → AllByRecursion P (tabulate_lists n f)
all_tabulate_lists P n f h = all_flat P f (numbers_from 0 n) (all_numbers (λ j. AllByRecursion P (f j)) 0 n (λ j a b. h j (omega arith)))

pub one_number : (k n j : ℕ) → k ≤ j → j < k + n → IsOneOf j (numbers_from k n)
one_number k zero j a b = absurd (omega arith)
one_number k (suc n) j a b = by_first (cases_lt k j) (one_number (suc k) n j)
  where
    by_first : (k < j) ⊎ (j ≤ k) → (suc k ≤ j → j < suc k + n → IsOneOf j (numbers_from (suc k) n)) → IsOneOf j (k ∷ numbers_from (suc k) n)
    by_first (inl lt) more = inr (more (omega arith) (omega arith))
    by_first (inr ge) more = inl (omega arith)

pub one_tabulate : {X : Type 0} (n : ℕ) (f : ℕ → X) (j : ℕ) → j < n → IsOneOf (f j) (tabulate n f)
one_tabulate n f j lt = one_map f j (numbers_from 0 n) (one_number 0 n j (omega arith) (omega arith))

pub one_tabulate_lists : {X : Type 0} (n : ℕ) (f : ℕ → List X) (j : ℕ) (x : X) → j < n → IsOneOf x (f j) → IsOneOf x (tabulate_lists n f)
one_tabulate_lists n f j x lt is = one_flat f j x (numbers_from 0 n) (one_number 0 n j (omega arith) (omega arith)) is

pub few_of : (b : ℕ) → IsGroupSize b → power_of_two b ≤ 8
few_of b (inl e) = let t = twice_up b 3 (omega (arith, e)) in omega (arith, t)
few_of b (inr e) = let t = twice_up b 3 (omega (arith, e)) in omega (arith, t)

pub all_lines : (P : List ℕ → Type 0) (bs : List ℕ) (g : ℕ) → AllByRecursion IsGroupSize bs → ((h k : ℕ) → h < g + length bs → k < 8 → P (with_numbers (codes "p") h k)) → AllByRecursion P (predecode_lines_from bs g)
all_lines P [] g sizes all = tt
all_lines P (b ∷ bs) g sizes all =
    all_append P (tabulate (power_of_two b) (with_numbers (codes "p") g)) (predecode_lines_from bs (suc g))
    (all_tabulate P (power_of_two b) (with_numbers (codes "p") g) (λ k lt. all g k (omega arith) (let few = few_of b sizes.0 in omega (arith, few))))
    (all_lines P bs (suc g) sizes.1 (λ h k lt few. all h k (omega arith) few))

pub low_few : (b r : ℕ) → low_bits b r < power_of_two b
low_few zero r = omega arith
low_few (suc b) r = by (lowest_bit r) (low_few b (r / 2))
  where
    by : (o : Bool) → low_bits b (r / 2) < power_of_two b → cond o 1 0 + 2 * low_bits b (r / 2) < 2 * power_of_two b
    by true h = omega (arith, h)
    by false h = omega (arith, h)

-- a row's lines are some of all
pub row_lines_there : (bs : List ℕ) (g r : ℕ) (all : List (List ℕ)) → ((n : List ℕ) → IsOneOf n (predecode_lines_from bs g) → IsOneOf n all) → AllByRecursion (λ n. IsOneOf n all) (row_lines_from bs g r)
row_lines_there [] g r all more = tt
row_lines_there (b ∷ bs) g r all more = (
  more (with_numbers (codes "p") g (low_bits b r)) (one_left (with_numbers (codes "p") g (low_bits b r)) (tabulate (power_of_two b) (with_numbers (codes "p") g)) (predecode_lines_from bs (suc g)) (one_tabulate (power_of_two b) (with_numbers (codes "p") g) (low_bits b r) (low_few b r))),
  row_lines_there bs (suc g) (high_bits b r) all (λ n is. more n (one_right n (tabulate (power_of_two b) (with_numbers (codes "p") g)) (predecode_lines_from bs (suc g)) is)),
)

pub of_bit_lines : (P : List ℕ → Type 0) (plan : Organization) → ((c : ℕ) → c < columns_of plan → P (with_number (codes "bl") c)) → ((c : ℕ) → c < columns_of plan → P (with_number (codes "br") c)) → AllByRecursion P (all_bit_lines plan)
of_bit_lines P plan bl br = all_tabulate_lists P (columns_of plan) column_bit_lines (λ c lt. (bl c lt, (br c lt, tt)))

pub one_bl : (plan : Organization) (c : ℕ) → c < columns_of plan → IsOneOf (with_number (codes "bl") c) (all_bit_lines plan)
one_bl plan c lt = one_tabulate_lists (columns_of plan) column_bit_lines c (with_number (codes "bl") c) lt (inl refl)

pub one_br : (plan : Organization) (c : ℕ) → c < columns_of plan → IsOneOf (with_number (codes "br") c) (all_bit_lines plan)
one_br plan c lt = one_tabulate_lists (columns_of plan) column_bit_lines c (with_number (codes "br") c) lt (inr (inl refl))

pub all_choices : (P : List ℕ → Type 0) (m : ℕ) → ((k : ℕ) → k < power_of_two m → P (with_number (codes "sel") k)) → AllByRecursion P (column_choices m)
all_choices P zero h = tt
all_choices P (suc m) h = all_tabulate P (power_of_two (suc m)) (with_number (codes "sel")) h

pub one_choice : (m k : ℕ) → 0 < m → k < power_of_two m → IsOneOf (with_number (codes "sel") k) (column_choices m)
one_choice zero k some lt = absurd (omega arith)
one_choice (suc m) k some lt = one_tabulate (power_of_two (suc m)) (with_number (codes "sel")) k lt

pub all_row_lines : (P : List ℕ → Type 0) (bs : List ℕ) (g r : ℕ) → AllByRecursion IsGroupSize bs → ((h k : ℕ) → h < g + length bs → k < 8 → P (with_numbers (codes "p") h k)) → AllByRecursion P (row_lines_from bs g r)
all_row_lines P [] g r sizes all = tt
all_row_lines P (b ∷ bs) g r sizes all = (
  all g (low_bits b r) (omega arith) (let few = few_of b sizes.0 in let lt = low_few b r in omega (arith, few, lt)),
  all_row_lines P bs (suc g) (high_bits b r) sizes.1 (λ h k lt few. all h k (omega arith) few),
)

pub line_plain : (h k : ℕ) → h < 3 → k < 8 → IsPlain (with_numbers (codes "p") h k)
line_plain h k lt few =
    let inner = plain_tail k (omega arith) [] refl in
    let outer = plain_tail h (omega arith) (95 ∷ (decimal k ++ [])) inner in
    outer

pub few_groups : (plan : Organization) → IsBuildable plan → length plan.groups ≤ 3
few_groups plan p = by p.groups
  where
    by : (length plan.groups ≡ 2) ⊎ (length plan.groups ≡ 3) → length plan.groups ≤ 3
    by (inl e) = omega (arith, e)
    by (inr e) = omega (arith, e)

pub row_lines_plain : (plan : Organization) (r : ℕ) → IsBuildable plan → AllByRecursion IsPlain (row_lines_from plan.groups 0 r)
row_lines_plain plan r p = all_row_lines IsPlain plan.groups 0 r p.sizes (λ h k lt few. line_plain h k (let n = few_groups plan p in omega (arith, n)) few)

pub lines_plain : (plan : Organization) → IsBuildable plan → AllByRecursion IsPlain (predecode_lines plan)
lines_plain plan p = all_lines IsPlain plan.groups 0 p.sizes (λ h k lt few. line_plain h k (let n = few_groups plan p in omega (arith, n)) few)
