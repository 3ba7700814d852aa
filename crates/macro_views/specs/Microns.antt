-- Lengths in microns.
use Rattle.std.specs.Prelude.{ℕ, ℤ, pos, negsuc, ◌+◌, ◌/◌, ◌%◌, List, [], ◌∷◌, ◌++◌, codes}
use Rattle.std.specs.Fmt.{decimal}

-- a number below 1000, with three digits
abbrev pub three_digits : ℕ → List ℕ
three_digits n = (48 + n / 100) ∷ (48 + n / 10 % 10) ∷ (48 + n % 10) ∷ []

-- so many nanometres, in microns with three decimals
abbrev pub natural_microns : ℕ → List ℕ
natural_microns n = decimal (n / 1000) ++ codes "." ++ three_digits (n % 1000)

abbrev pub microns : ℤ → List ℕ
microns (pos n) = natural_microns n
microns (negsuc n) = codes "-" ++ natural_microns (n + 1)
