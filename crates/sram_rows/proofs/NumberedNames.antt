-- The letters of a numbered name, and its numbers.
use Rattle.std.proofs.Common.{◌≡◌, ℕ, ◌<◌, ◌^◌, Bool, true, false, ◌&&◌, not, cond, List, [], ◌∷◌, ◌++◌, ◌+◌, ◌*◌, ◌-◌, None, Some, refl, ap, ◌∙◌}
use Rattle.std.specs.Fmt.{decimal}
use Rattle.std.proofs.lemmas.List.{append-nil}
use Rattle.sram_netlist.specs.Names.{with_number, with_numbers, with_index}
use Rattle.sram_netlist.proofs.NamesTell.{is_digit, letters, runs, sum_of, ended, first, rest}
use Rattle.sram_netlist.proofs.Readings.{letters_skip, runs_read}
use Rattle.sram_rows.proofs.DigitLaws.{both_true}

letters_append : (xs ys : List ℕ) → letters (xs ++ ys) ≡ letters xs ++ letters ys
letters_append [] ys = refl
letters_append (x ∷ xs) ys = by (is_digit x) (letters_append xs ys)
  where
    by : (b : Bool) → letters (xs ++ ys) ≡ letters xs ++ letters ys → cond b (letters (xs ++ ys)) (x ∷ letters (xs ++ ys)) ≡ cond b (letters xs) (x ∷ letters xs) ++ letters ys
    by true e = e
    by false e = ap (λ (l : List ℕ). x ∷ l) e

pub number_letters : (ls : List ℕ) (i : ℕ) → i < 2 ^ 64 → letters (with_number ls i) ≡ letters ls
number_letters ls i few = letters_append ls (decimal i ++ []) ∙ ap (λ (l : List ℕ). letters ls ++ l) (letters_skip i few []) ∙ append-nil (letters ls)

pub numbers_letters : (ls : List ℕ) (i j : ℕ) → i < 2 ^ 64 → j < 2 ^ 64 → letters (with_numbers ls i j) ≡ letters ls ++ (95 ∷ [])
numbers_letters ls i j few few' =
    letters_append ls (decimal i ++ (95 ∷ (decimal j ++ []))) ∙ ap (λ (l : List ℕ). letters ls ++ l) (letters_skip i few (95 ∷ (decimal j ++ [])) ∙ ap (λ (l : List ℕ). 95 ∷ l) (letters_skip j few' []))

pub index_letters : (ls : List ℕ) (i : ℕ) → i < 2 ^ 64 → letters (with_index ls i) ≡ letters ls ++ (91 ∷ 93 ∷ [])
index_letters ls i few = letters_append ls (91 ∷ (decimal i ++ (93 ∷ []))) ∙ ap (λ (l : List ℕ). letters ls ++ (91 ∷ l)) (letters_skip i few (93 ∷ []))

-- the first number in a name, and the second
abbrev pub first_number : List ℕ → ℕ
first_number n = first (runs None n)

abbrev pub second_number : List ℕ → ℕ
second_number n = first (rest (runs None n))

-- no digits
abbrev pub has_no_digit : List ℕ → Bool
has_no_digit [] = true
has_no_digit (c ∷ cs) = not (is_digit c) && has_no_digit cs

runs_skip : (ls more : List ℕ) → has_no_digit ls ≡ true → runs None (ls ++ more) ≡ runs None more
runs_skip [] more e = refl
runs_skip (c ∷ cs) more e =
    let both = both_true (not (is_digit c)) (has_no_digit cs) e in
    by (is_digit c) (runs (Some (10 * sum_of None + (c - 48))) (cs ++ more)) both.0 (runs_skip cs more both.1)
  where
    by : (b : Bool) (digit : List ℕ) → not b ≡ true → runs None (cs ++ more) ≡ runs None more → cond b digit (ended None (runs None (cs ++ more))) ≡ runs None more
    by true digit off later = absurd cc
    by false digit off later = later

pub number_is : (ls : List ℕ) (i : ℕ) → has_no_digit ls ≡ true → i < 2 ^ 64 → first_number (with_number ls i) ≡ i
number_is ls i none few = ap first (runs_skip ls (decimal i ++ []) none ∙ runs_read i few [])

pub numbers_are : (ls : List ℕ) (i j : ℕ) → has_no_digit ls ≡ true → i < 2 ^ 64 → j < 2 ^ 64 → runs None (with_numbers ls i j) ≡ i ∷ j ∷ []
numbers_are ls i j none few few' = runs_skip ls (decimal i ++ (95 ∷ (decimal j ++ []))) none ∙ runs_read i few (95 ∷ (decimal j ++ [])) ∙ ap (λ (ns : List ℕ). i ∷ ns) (runs_read j few' [])

-- letters that end by one number
pub index_is : (ls : List ℕ) (i : ℕ) → ((more : List ℕ) → runs None (ls ++ (91 ∷ more)) ≡ 0 ∷ runs None more) → i < 2 ^ 64 → second_number (with_index ls i) ≡ i
index_is ls i one few = ap (λ (ns : List ℕ). first (rest ns)) (one (decimal i ++ (93 ∷ [])) ∙ ap (λ (ns : List ℕ). 0 ∷ ns) (runs_read i few (93 ∷ [])))
