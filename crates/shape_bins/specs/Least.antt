-- The least of places.
use Rattle.std.specs.Prelude.{◌≡◌, ◌⊎◌, ℕ, ◌≤◌, Option, None, Some, IfSome}

-- one was found, and it is no greater than the other
abbrev pub IsAtMost : Option ℕ → ℕ → Type 0
IsAtMost None other = ⊥
IsAtMost (Some found) other = found ≤ other

-- what is found is the least of the one found before and of those that have P
pub record IsLeastWith (before : Option ℕ) (P : ℕ → Type 0) (found : Option ℕ) : Type 0 where
  pub one : (place : ℕ) → found ≡ Some place → (before ≡ Some place) ⊎ P place
  pub below : (other : ℕ) → before ≡ Some other → IsAtMost found other
  pub least : (other : ℕ) → P other → IsAtMost found other

-- the lesser of the place and of the one that was found, if one was
pub record IsLesser (found : Option ℕ) (place lesser : ℕ) : Type 0 where
  pub below : lesser ≤ place
  pub before : IfSome found (λ other. lesser ≤ other)
  pub one : (lesser ≡ place) ⊎ (found ≡ Some lesser)
