-- Names of printable characters, and decimals in them.
use Rattle.std.proofs.Common.{◌≡◌, ℕ, nat_le, ◌+◌, ◌%◌, ◌<◌, ◌≤◌, ◌^◌, Bool, true, false, not, ◌&&◌, List, [], ◌∷◌, ◌++◌, length, refl, arith}
use Rattle.std.specs.List.{AllByRecursion, list_all}
use Rattle.std.specs.Fmt.{decimal}
use Rattle.std.proofs.lemmas.Fmt.{decimal_by_steps, length-decimal-le}
use Rattle.std.proofs.lemmas.List.{length-append}
use Rattle.std.proofs.lemmas.Bool.Decides.{nat_tests}
use Rattle.gds_library.specs.Writable.{IsPrintable, IsText}
use Rattle.sram_plan.specs.Config.{is_identifier, is_name_char, starts_with_letter}
use Rattle.sram_plan.specs.Keywords.{is_keyword}
use Rattle.macro_bounds.specs.Writable.{OutputNamesAreShort}
use Rattle.sram_netlist.specs.Names.{with_number, with_numbers, with_index}

pub all_joined : {X : Type 0} (P : X → Type 0) (xs ys : List X) → AllByRecursion P xs → AllByRecursion P ys → AllByRecursion P (xs ++ ys)
all_joined P [] ys a b = b
all_joined P (x ∷ xs) ys a b = (a.0, all_joined P xs ys a.1 b)

-- at most so many characters, all of them printable
record IsPart (most : ℕ) (text : List ℕ) : Type 0 where
  few : length text ≤ most
  printable : AllByRecursion IsPrintable text

joined : (a b : ℕ) (xs ys : List ℕ) → IsPart a xs → IsPart b ys → IsPart (a + b) (xs ++ ys)
joined a b xs ys p q = record {
  few = let long = length-append xs ys in let left = p.few in let right = q.few in omega (arith, long, left, right);
  printable = all_joined IsPrintable xs ys p.printable q.printable;
}

digit_printable : (n : ℕ) → n < 10 → IsPrintable (48 + n)
digit_printable n lt = record { above = omega (arith, lt); below = omega (arith, lt) }

digits_printable : (n : ℕ) → n < 2 ^ 64 → AllByRecursion IsPrintable (decimal n)
digits_printable n lt = decimal_by_steps (λ n ds. AllByRecursion IsPrintable ds) (λ n small. (digit_printable n small, tt))
    (λ n ds big all. all_joined IsPrintable ds ((48 + n % 10) ∷ []) all (digit_printable (n % 10) (omega arith), tt)) n lt

decimal_part : (n : ℕ) → n < 10 ^ 7 → IsPart 7 (decimal n)
decimal_part n lt = record { few = length-decimal-le 7 n (omega arith) lt (omega (arith, lt)); printable = digits_printable n (omega (arith, lt)) }

-- the test of a literal name: 1 to 16 printable characters

abbrev are_printable : List ℕ → Bool
are_printable [] = true
are_printable (c ∷ cs) = (nat_le 32 c && nat_le c 126) && are_printable cs

abbrev is_label : List ℕ → Bool
is_label [] = false
is_label (c ∷ cs) = nat_le (length cs) 15 && are_printable (c ∷ cs)

abbrev pub IsLabel : List ℕ → Type 0
IsLabel text = is_label text ≡ true

both_true : (a b : Bool) → (a && b) ≡ true → (a ≡ true) × (b ≡ true)
both_true true true e = (refl, refl)
both_true true false e = absurd cc
both_true false b e = absurd cc

byte_printable : (c : ℕ) → (nat_le 32 c && nat_le c 126) ≡ true → IsPrintable c
byte_printable c e = let both = both_true (nat_le 32 c) (nat_le c 126) e in let low = both.0 in let high = both.1 in record { above = grind (arith, nat_tests, low); below = grind (arith, nat_tests, high) }

bytes_printable : (cs : List ℕ) → are_printable cs ≡ true → AllByRecursion IsPrintable cs
bytes_printable [] e = tt
bytes_printable (c ∷ cs) e = let both = both_true (nat_le 32 c && nat_le c 126) (are_printable cs) e in (byte_printable c both.0, bytes_printable cs both.1)

fifteen : (n : ℕ) → nat_le n 15 ≡ true → n ≤ 15
fifteen n e = grind (arith, nat_tests, e)

label_part : (text : List ℕ) → IsLabel text → IsPart 16 text
label_part [] e = absurd cc
label_part (c ∷ cs) e =
    let both = both_true (nat_le (length cs) 15) (are_printable (c ∷ cs)) e in
    let few = fifteen (length cs) both.0 in
    record { few = omega (arith, few); printable = bytes_printable (c ∷ cs) both.1 }

label_some : (text : List ℕ) → IsLabel text → 1 ≤ length text
label_some [] e = absurd cc
label_some (c ∷ cs) e = omega arith

part_text : (most : ℕ) (text : List ℕ) → most ≤ 512 → 1 ≤ length text → IsPart most text → IsText text
part_text most text le some p = let few = p.few in record { some = some; few = omega (arith, le, few); printable = p.printable }

-- a literal name
pub label_text : (text : List ℕ) → IsLabel text → IsText text
label_text text e = part_text 16 text (omega arith) (label_some text e) (label_part text e)

behind_label : (letters more : List ℕ) (most : ℕ) → most ≤ 100 → IsLabel letters → IsPart most more → IsText (letters ++ more)
behind_label letters more most le e p =
    let some = label_some letters e in
    let long = length-append letters more in
    part_text (16 + most) (letters ++ more) (omega (arith, le)) (omega (arith, some, long)) (joined 16 most letters more (label_part letters e) p)

nothing : IsPart 0 []
nothing = record { few = omega arith; printable = tt }

-- letters and a number
pub number_text : (letters : List ℕ) (i : ℕ) → IsLabel letters → i < 10 ^ 7 → IsText (with_number letters i)
number_text letters i e few = behind_label letters (decimal i ++ []) 7 (omega arith) e (joined 7 0 (decimal i) [] (decimal_part i few) nothing)

-- letters and two numbers
pub numbers_text : (letters : List ℕ) (i j : ℕ) → IsLabel letters → i < 10 ^ 7 → j < 10 ^ 7 → IsText (with_numbers letters i j)
numbers_text letters i j e few more =
    behind_label letters (decimal i ++ (95 ∷ (decimal j ++ []))) 15 (omega arith) e
    (joined 7 8 (decimal i) (95 ∷ (decimal j ++ [])) (decimal_part i few) (joined 1 7 (95 ∷ []) (decimal j ++ []) (record { few = omega arith; printable = bytes_printable (95 ∷ []) refl }) (joined 7 0 (decimal j) [] (decimal_part j more) nothing)))

-- letters and a number in brackets
pub index_text : (letters : List ℕ) (i : ℕ) → IsLabel letters → i < 10 ^ 7 → IsText (with_index letters i)
index_text letters i e few =
    behind_label letters (91 ∷ (decimal i ++ (93 ∷ []))) 9 (omega arith) e
    (joined 1 8 (91 ∷ []) (decimal i ++ (93 ∷ [])) (record { few = omega arith; printable = bytes_printable (91 ∷ []) refl }) (joined 7 1 (decimal i) (93 ∷ []) (decimal_part i few) (record { few = omega arith; printable = bytes_printable (93 ∷ []) refl })))

-- a short name and letters
pub name_text : (n letters : List ℕ) → IsText n → length n ≤ 24 → IsLabel letters → IsText (n ++ letters)
name_text n letters text few e =
    let some = text.some in
    let long = length-append n letters in
    part_text 40 (n ++ letters) (omega arith) (omega (arith, some, long)) (joined 24 16 n letters (record { few = few; printable = text.printable }) (label_part letters e))

-- a short name, letters and a number
pub name_number_text : (n letters : List ℕ) (i : ℕ) → IsText n → length n ≤ 24 → IsLabel letters → i < 10 ^ 7 → IsText (with_number (n ++ letters) i)
name_number_text n letters i text few e small =
    let some = text.some in
    let long = length-append n letters in
    let longer = length-append (n ++ letters) (decimal i ++ []) in
    part_text 47 (with_number (n ++ letters) i) (omega arith) (omega (arith, some, long, longer))
    (joined 40 7 (n ++ letters) (decimal i ++ []) (joined 24 16 n letters (record { few = few; printable = text.printable }) (label_part letters e)) (joined 7 0 (decimal i) [] (decimal_part i small) nothing))

-- the names that a configuration may give

name_byte_printable : (b : ℕ) → is_name_char b ≡ true → IsPrintable b
name_byte_printable b e = record { above = grind (arith, nat_tests, e); below = grind (arith, nat_tests, e) }

name_printable : (n : List ℕ) → list_all is_name_char n ≡ true → AllByRecursion IsPrintable n
name_printable [] e = tt
name_printable (b ∷ bs) e = let both = both_true (is_name_char b) (list_all is_name_char bs) e in (name_byte_printable b both.0, name_printable bs both.1)

some_letter : (n : List ℕ) → starts_with_letter n ≡ true → 1 ≤ length n
some_letter [] e = absurd cc
some_letter (b ∷ bs) e = omega arith

twenty_four : (k : ℕ) → nat_le k 24 ≡ true → k ≤ 24
twenty_four k e = grind (arith, nat_tests, e)

pub output_names_are_short : OutputNamesAreShort
output_names_are_short n e =
    let is = (both_true (is_identifier n) (not (is_keyword n)) e).0 in
    let first = both_true (nat_le (length n) 24) (starts_with_letter n && list_all is_name_char n) is in
    let second = both_true (starts_with_letter n) (list_all is_name_char n) first.1 in
    let few = twenty_four (length n) first.0 in
    record { text = record { some = some_letter n second.0; few = omega (arith, few); printable = name_printable n second.1 }; few = few }
