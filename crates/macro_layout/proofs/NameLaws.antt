-- Names of instances have no capital letters.
use Rattle.std.proofs.Common.{◌≡◌, ℕ, ◌<◌, ◌^◌, List, [], ◌∷◌, ◌++◌, map, refl, sym, ap, ◌∙◌, arith}
use Rattle.std.proofs.lemmas.List.{append-nil}
use Rattle.std.specs.List.{AllByRecursion}
use Rattle.std.specs.Char.{to_ascii_lowercase}
use Rattle.std.specs.Fmt.{decimal}
use Rattle.std.specs.Int.{IsInRange}
use Rattle.std.proofs.lemmas.Fmt.{digits_decimal}
use Rattle.std.proofs.lemmas.Str.Parse.{IsDigitsTest, numerals_by_value}

abbrev AreDigits : List ℕ → Type 0
AreDigits = AllByRecursion (IsInRange 48 57)

test : IsDigitsTest AreDigits
test = record { empty = tt; parts = λ c cs h. h; more = λ c cs h hs. (h, hs) }

digits : (n : ℕ) → n < 2 ^ 64 → AreDigits (decimal n)
digits n lt = digits_decimal (numerals_by_value AreDigits test) n lt

digit_kept : (c : ℕ) → IsInRange 48 57 c → to_ascii_lowercase c ≡ c
digit_kept c d = let high = d.1 in grind (arith, high)

digits_kept : (cs : List ℕ) → AreDigits cs → map to_ascii_lowercase cs ≡ cs
digits_kept [] all = refl
digits_kept (c ∷ cs) all = λ i. digit_kept c all.0 i ∷ digits_kept cs all.1 i

pub decimal_kept : (n : ℕ) → n < 2 ^ 64 → map to_ascii_lowercase (decimal n) ≡ decimal n
decimal_kept n lt = digits_kept (decimal n) (digits n lt)

pub number_kept : (n : ℕ) → n < 2 ^ 64 → map to_ascii_lowercase (decimal n ++ []) ≡ decimal n ++ []
number_kept n lt = ap (map to_ascii_lowercase) (append-nil (decimal n)) ∙ (decimal_kept n lt ∙ sym (append-nil (decimal n)))
