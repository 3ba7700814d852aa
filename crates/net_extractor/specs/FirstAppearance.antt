-- Numbers by first appearance.
use Rattle.std.specs.Prelude.{◌≡◌, ◌⊎◌, ℕ, ◌+◌, ◌<◌, List, [], ◌∷◌, Option, Some, None}

-- after `next` different numbers have appeared, a number is one of those or the next one
abbrev pub AppearFrom : ℕ → List (Option ℕ) → Type 0
AppearFrom next [] = Unit {0}
AppearFrom next (None ∷ rest) = AppearFrom next rest
AppearFrom next (Some number ∷ rest) = ((number < next) × AppearFrom next rest) ⊎ ((number ≡ next) × AppearFrom (next + 1) rest)

-- the numbers run from 0 by first appearance
abbrev pub AreNumberedInOrder : List (Option ℕ) → Type 0
AreNumberedInOrder numbers = AppearFrom 0 numbers
