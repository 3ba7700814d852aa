-- Tracks in use, each behind the place from which it is free, and tracks that are free.
use Rattle.std.specs.Prelude.{◌≡◌, ◌⊎◌, ℕ, ◌+◌, ◌≤◌, ℤ, ◌<ℤ◌, ◌≤ℤ◌, List, ◌∷◌, Contains}

-- the track was the first of those in use and is free at left or before
pub record IsEnded (left : ℤ) (old new : List (ℤ × ℕ)) (track : ℕ) : Type 0 where
  pub from : ℤ
  pub first : old ≡ (from, track) ∷ new
  pub ends : from ≤ℤ left

-- all in use are free behind left alone
abbrev pub NoneEnds : ℤ → List (ℤ × ℕ) → Type 0
NoneEnds left busy = (from : ℤ) (track : ℕ) → Contains busy (from, track) → left <ℤ from

-- those that are free at left or before have become free, and the others are in use
pub record Releases (left : ℤ) (busy : List (ℤ × ℕ)) (free : List ℕ) (busy_new : List (ℤ × ℕ)) (free_new : List ℕ) : Type 0 where
  pub stays : (from : ℤ) (track : ℕ) → Contains busy_new (from, track) → Contains busy (from, track) × (left <ℤ from)
  pub kept : (from : ℤ) (track : ℕ) → Contains busy (from, track) → left <ℤ from → Contains busy_new (from, track)
  pub freed : (from : ℤ) (track : ℕ) → Contains busy (from, track) → from ≤ℤ left → Contains free_new track
  pub free_kept : (track : ℕ) → Contains free track → Contains free_new track
  pub only : (track : ℕ) → Contains free_new track → Contains free track ⊎ ((from : ℤ) × Contains busy (from, track) × (from ≤ℤ left))

-- the track was the lowest of the free ones
pub record TakesFree (free free_new : List ℕ) (track : ℕ) : Type 0 where
  pub there : Contains free track
  pub lowest : (other : ℕ) → Contains free other → track ≤ other
  pub gone : Contains free_new track → ⊥
  pub kept : (other : ℕ) → Contains free other → (other ≡ track) ⊎ Contains free_new other
  pub only : (other : ℕ) → Contains free_new other → Contains free other

-- no track was free, and the track is the next one
pub record TakesNew (free : List ℕ) (opened : ℕ) (free_new : List ℕ) (opened_new track : ℕ) : Type 0 where
  pub none : (other : ℕ) → Contains free other → ⊥
  pub still : (other : ℕ) → Contains free_new other → ⊥
  pub next : track ≡ opened
  pub more : opened_new ≡ opened + 1

abbrev pub Takes : List ℕ → ℕ → List ℕ → ℕ → ℕ → Type 0
Takes free opened free_new opened_new track = (TakesFree free free_new track × (opened_new ≡ opened)) ⊎ TakesNew free opened free_new opened_new track
