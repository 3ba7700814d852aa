-- Numbers in base 16.
use Rattle.std.specs.Prelude.{ℕ, zero, suc, ◌+◌, ◌/◌, ◌%◌, List, [], ◌∷◌, ◌++◌}
use Rattle.std.specs.Char.{digit_char}

-- a word of so many bits has so many digits
abbrev pub hex_digit_count : ℕ → ℕ
hex_digit_count word_size = (word_size + 3) / 4

-- the last digits of a number, so many, the highest first and in lower case
abbrev pub hex_digits : ℕ → ℕ → List ℕ
hex_digits zero number = []
hex_digits (suc count) number = hex_digits count (number / 16) ++ digit_char (number % 16) ∷ []
