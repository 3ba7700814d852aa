-- Digits of base 16.
use Rattle.std.proofs.Common.{◌≡◌, ℕ, zero, suc, ◌+◌, ◌-◌, ◌*◌, ◌/◌, ◌%◌, ◌^◌, ◌<◌, ◌≤◌, length, List, [], ◌∷◌, ◌++◌, refl, sym, ap, ◌∙◌, append_assoc, bit_and, arith}
use Rattle.std.specs.Char.{digit_char, digit_value}
use Rattle.std.specs.Str.Parse.{digits_value}
use Rattle.std.proofs.Math.Nat.{div-lt_iff_lt-mul}
use Rattle.std.proofs.lemmas.Int.Digits.{digits_value_push}
use Rattle.std.proofs.lemmas.List.{length_push}
use Rattle.std.proofs.lemmas.Nat.{and_mask, shr-shr}
use Rattle.std.proofs.lemmas.Str.{digit_value-digit_char}
use Rattle.rom_data.specs.Hex.{hex_digits}

-- one digit more
digit_more : (count n digit : ℕ) (x a b : List ℕ) → a ≡ x ++ hex_digits count (n / 16) → digit ≡ digit_char (bit_and n 15) → b ≡ a ++ digit ∷ [] → b ≡ x ++ hex_digits (suc count) n
digit_more count n digit x a b before is after =
    after
    ∙ (ap (λ (l : List ℕ). l ++ digit ∷ []) before
    ∙ (append_assoc x (hex_digits count (n / 16)) (digit ∷ [])
    ∙ ap (λ (d : ℕ). x ++ (hex_digits count (n / 16) ++ d ∷ [])) (is ∙ ap digit_char (and_mask n 4))))

-- the digit of the place below
pub digit_below : (count place n digit : ℕ) (x a b : List ℕ) → 0 < place → place ≤ count → a ≡ x ++ hex_digits (count - place) (n / 2 ^ (4 * place)) → digit ≡ digit_char (bit_and (n / 2 ^ (4 * (place - 1))) 15) → b ≡ a ++ digit ∷ [] → b ≡ x ++ hex_digits (count - (place - 1)) (n / 2 ^ (4 * (place - 1)))
digit_below count place n digit x a b some within before is after =
    let low = place - 1 in
    let places : 4 * place ≡ 4 * low + 4 = omega arith in
    let counts : suc (count - place) ≡ count - low = omega arith in
    let quotient : n / 2 ^ (4 * place) ≡ n / 2 ^ (4 * low) / 16 = ap (λ (k : ℕ). n / 2 ^ k) places ∙ sym (shr-shr n (4 * low) 4) in
    digit_more (count - place) (n / 2 ^ (4 * low)) digit x a b (before ∙ ap (λ (q : ℕ). x ++ hex_digits (count - place) q) quotient) is after
    ∙ ap (λ (k : ℕ). x ++ hex_digits k (n / 2 ^ (4 * low))) counts

-- there are so many digits
pub length-hex_digits : (count n : ℕ) → length (hex_digits count n) ≡ count
length-hex_digits zero n = refl
length-hex_digits (suc count) n = length_push (hex_digits count (n / 16)) (digit_char (n % 16)) ∙ omega (arith, length-hex_digits count (n / 16))

-- they are the number, where so many are enough
pub digits_value-hex_digits : (count n : ℕ) → n < 16 ^ count → digits_value 16 (hex_digits count n) ≡ n
digits_value-hex_digits zero n small = omega arith
digits_value-hex_digits (suc count) n small =
    let front : n / 16 < 16 ^ count = (div-lt_iff_lt-mul {k = 16} {x = n} {y = 16 ^ count} (omega arith)).1 (omega arith) in
    let rest = digits_value-hex_digits count (n / 16) front in
    let last : digit_value (digit_char (n % 16)) ≡ n % 16 = digit_value-digit_char (n % 16) (omega arith) in
    digits_value_push 16 (hex_digits count (n / 16)) (digit_char (n % 16)) ∙ omega (arith, rest, last)
