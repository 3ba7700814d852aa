-- Lists of places, and what stands in them from one position up to another.
use Rattle.std.specs.Prelude.{◌≡◌, ℕ, ◌≤◌, ◌<◌, List, slice_get, Some}

-- each place that stands there has P
abbrev pub AllBetween : (ℕ → Type 0) → List ℕ → ℕ → ℕ → Type 0
AllBetween P places first end = (at place : ℕ) → first ≤ at → at < end → slice_get places at ≡ Some place → P place

-- no place that stands there is less than this one
abbrev pub AllAtLeast : ℕ → List ℕ → ℕ → ℕ → Type 0
AllAtLeast least = AllBetween (λ place. least ≤ place)

-- the place stands there
pub record IsListedBetween (places : List ℕ) (first end place : ℕ) : Type 0 where
  pub at : ℕ
  pub from : first ≤ at
  pub to : at < end
  pub there : slice_get places at ≡ Some place

-- and has P
abbrev pub HasBetween : (ℕ → Type 0) → List ℕ → ℕ → ℕ → ℕ → Type 0
HasBetween P places first end place = IsListedBetween places first end place × P place
