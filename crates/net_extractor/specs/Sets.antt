-- Disjoint sets of places, as a list: over each place stands another of its set, or the place itself.
use Rattle.std.specs.Prelude.{◌≡◌, ◌⊎◌, ℕ, ◌<◌, ◌≤◌, List, length, slice_get, Some}
use Rattle.tech_rules.specs.Linked.{AreLinked}

-- what stands over a place is no greater
pub record IsFalling (above : List ℕ) : Type 0 where
  pub falls : (place over : ℕ) → slice_get above place ≡ Some over → over ≤ place

-- one of the places stands over the other
abbrev pub IsRootStep : List ℕ → ℕ → ℕ → Type 0
IsRootStep above a b = (slice_get above a ≡ Some b) ⊎ (slice_get above b ≡ Some a)

abbrev pub Anywhere : ℕ → Type 0
Anywhere place = Unit {0}

-- the places are of one set: steps lead from one to the other
abbrev pub AreTogether : List ℕ → ℕ → ℕ → Type 0
AreTogether above a b = AreLinked Anywhere (IsRootStep above) a b

-- what is together stays so
pub record Keeps (old new : List ℕ) : Type 0 where
  pub keeps : (a b : ℕ) → AreTogether old a b → AreTogether new a b

-- a root stands over itself
abbrev pub IsRoot : List ℕ → ℕ → Type 0
IsRoot above place = slice_get above place ≡ Some place

-- the sets are the same, and each root still is one
pub record AreSameSets (old new : List ℕ) : Type 0 where
  pub sized : length new ≡ length old
  pub falls : IsFalling new
  pub kept : Keeps old new
  pub back : Keeps new old
  pub roots : (place : ℕ) → IsRoot old place → IsRoot new place

-- the root of the place's set was found, and the sets are the same
pub record FindsRoot (old : List ℕ) (place root : ℕ) (new : List ℕ) : Type 0 where
  pub alike : AreSameSets old new
  pub leads : AreTogether old place root
  pub top : IsRoot new root

-- the places were together, or P holds of them, either way round
abbrev pub IsRootStepBy : List ℕ → (ℕ → ℕ → Type 0) → ℕ → ℕ → Type 0
IsRootStepBy above P a b = AreTogether above a b ⊎ (P a b ⊎ P b a)

-- the sets of the places of which P holds were joined, and no others
pub record JoinsSets (P : ℕ → ℕ → Type 0) (old new : List ℕ) : Type 0 where
  pub sized : length new ≡ length old
  pub falls : IsFalling new
  pub kept : Keeps old new
  pub each : (a b : ℕ) → P a b → AreTogether new a b
  pub only : (a b : ℕ) → AreTogether new a b → AreLinked Anywhere (IsRootStepBy old P) a b

-- these two places
pub record AreThesePlaces (a b i j : ℕ) : Type 0 where
  pub first : i ≡ a
  pub second : j ≡ b

-- each place is a root
pub record AreAlone (count : ℕ) (above : List ℕ) : Type 0 where
  pub sized : length above ≡ count
  pub alone : (place : ℕ) → place < count → IsRoot above place

-- a root stands over each place
pub record AreRootsOver (above : List ℕ) : Type 0 where
  pub flat : (place over : ℕ) → slice_get above place ≡ Some over → IsRoot above over
