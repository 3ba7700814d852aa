-- The word that says how many workers there are.
use Rattle.std.specs.Prelude.{ℕ, ◌+◌, ◌*◌, ◌-◌, List, [], ◌∷◌, Bool, false, ◌&&◌, nat_le}

abbrev pub is_digit : ℕ → Bool
is_digit b = nat_le 48 b && nat_le b 57

-- a number from 1 to 64 in decimal digits, without a leading zero
abbrev pub is_workers : List ℕ → Bool
is_workers [] = false
is_workers (ones ∷ []) = nat_le 49 ones && nat_le ones 57
is_workers (tens ∷ ones ∷ []) = is_digit tens && (is_digit ones && (nat_le 10 (10 * (tens - 48) + (ones - 48)) && nat_le (10 * (tens - 48) + (ones - 48)) 64))
is_workers (a ∷ b ∷ c ∷ more) = false
