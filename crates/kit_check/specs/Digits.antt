-- Names that are `w` and 23 decimal digits, and texts that begin with one.
use Rattle.std.specs.Prelude.{◌≡◌, ◌⊎◌, ℕ, ◌+◌, ◌-◌, ◌*◌, ◌^◌, ◌<◌, ◌≤◌, List, [], ◌∷◌, ◌++◌, length}
use Rattle.std.specs.List.{AllByRecursion}

-- a byte that is a decimal digit
pub record IsDigit (b : ℕ) : Type 0 where
  pub low : 48 ≤ b
  pub high : b ≤ 57

-- the number that digits write after those of which the number is known
abbrev pub number_after : ℕ → List ℕ → ℕ
number_after before [] = before
number_after before (d ∷ ds) = number_after (before * 10 + (d - 48)) ds

-- digits that write the number after those of which the number is known
pub record AreDigitsAfter (before : ℕ) (digits : List ℕ) (number : ℕ) : Type 0 where
  pub digits_are : AllByRecursion IsDigit digits
  pub is : number_after before digits ≡ number

-- 23 digits, which write the number
pub record AreDigitsOf (number : ℕ) (digits : List ℕ) : Type 0 where
  pub sized : length digits ≡ 23
  pub write : AreDigitsAfter 0 digits number

-- `w` and 23 digits, which write the number
pub record IsNumberedName (number : ℕ) (name : List ℕ) : Type 0 where
  pub digits : List ℕ
  pub are : AreDigitsOf number digits
  pub is : name ≡ 119 ∷ digits

-- `w` or `W` and 23 digits, which write the number, and more
pub record BeginsWithNumber (text : List ℕ) (number : ℕ) : Type 0 where
  pub first : ℕ
  pub digits : List ℕ
  pub rest : List ℕ
  pub is : text ≡ first ∷ (digits ++ rest)
  pub w : (first ≡ 119) ⊎ (first ≡ 87)
  pub are : AreDigitsOf number digits

-- the text begins so with the number, which is less than 2^64
pub record IsNumberIn (text : List ℕ) (number : ℕ) : Type 0 where
  pub small : number < 2 ^ 64
  pub begins : BeginsWithNumber text number

-- the text grew by so many digits, which write the number
pub record AddsDigits (count number : ℕ) (old new : List ℕ) : Type 0 where
  pub digits : List ℕ
  pub is : new ≡ old ++ digits
  pub sized : length digits ≡ count
  pub write : AreDigitsAfter 0 digits number
