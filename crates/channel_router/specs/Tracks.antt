-- Which track each net gets. Nets are told by their place in the list of intervals.
use Rattle.std.specs.Prelude.{◌≡◌, ◌≢◌, ◌⊎◌, ℕ, ◌<◌, ◌≤◌, ℤ, ◌≤ℤ◌, ◌<ℤ◌, ◌+ℤ◌, List, length, slice_get, Some, FitsSigned}
use Rattle.std.specs.List.{All}
use Rattle.std.proofs.Common.{w64}
use Rattle.channel_router.specs.declared.channel.Interval.{Interval}

-- the first ends at least a pitch before the second begins
abbrev pub EndsBefore : ℤ → Interval → Interval → Type 0
EndsBefore pitch a b = (a.right +ℤ pitch) ≤ℤ b.left

-- the net at i has this interval and this track
pub record HasTrack (intervals : List Interval) (track : List ℕ) (i : ℕ) (interval : Interval) (t : ℕ) : Type 0 where
  pub there : slice_get intervals i ≡ Some interval
  pub on : slice_get track i ≡ Some t

-- each net has a track, and of two nets on one track one ends at least a pitch before the other begins
pub record IsAssignment (pitch : ℤ) (intervals : List Interval) (track : List ℕ) : Type 0 where
  pub each : length track ≡ length intervals
  pub apart : (i j t : ℕ) (a b : Interval) → i ≢ j → HasTrack intervals track i a t → HasTrack intervals track j b t → EndsBefore pitch a b ⊎ EndsBefore pitch b a

-- nets are taken by left end, then by number: the net at i before the net at j
abbrev pub IsTakenBefore : ℕ → Interval → ℕ → Interval → Type 0
IsTakenBefore i a j b = (a.left <ℤ b.left) ⊎ ((a.left ≡ b.left) × (i < j))

-- where the net at j is taken, the track is free: each net taken before that is on it ends at least a pitch before
abbrev pub IsFree : ℤ → List Interval → List ℕ → ℕ → Interval → ℕ → Type 0
IsFree pitch intervals track j b t = (i : ℕ) (a : Interval) → HasTrack intervals track i a t → IsTakenBefore i a j b → EndsBefore pitch a b

-- where the net at j is taken, the track is not free: some net taken before is on it and ends later than that
pub record IsBusy (pitch : ℤ) (intervals : List Interval) (track : List ℕ) (j : ℕ) (b : Interval) (t : ℕ) : Type 0 where
  pub i : ℕ
  pub a : Interval
  pub on : HasTrack intervals track i a t
  pub before : IsTakenBefore i a j b
  pub reaches : b.left <ℤ (a.right +ℤ pitch)

-- each net has the lowest track that is free where it is taken
pub record IsLowest (pitch : ℤ) (intervals : List Interval) (track : List ℕ) : Type 0 where
  pub each : length track ≡ length intervals
  pub free : (j t : ℕ) (b : Interval) → HasTrack intervals track j b t → IsFree pitch intervals track j b t
  pub lowest : (j t lower : ℕ) (b : Interval) → HasTrack intervals track j b t → lower < t → IsBusy pitch intervals track j b lower

-- all tracks are below the number
abbrev pub AreTracksBelow : List ℕ → ℕ → Type 0
AreTracksBelow track tracks = (i t : ℕ) → slice_get track i ≡ Some t → t < tracks

-- how many tracks are used: all are below it, and it is no greater than any number of which that is true
pub record IsTrackCount (track : List ℕ) (tracks : ℕ) : Type 0 where
  pub below : AreTracksBelow track tracks
  pub least : (n : ℕ) → AreTracksBelow track n → tracks ≤ n

-- the place at which another interval may begin behind each of them fits 64 bits
abbrev pub LeaveRoom : ℤ → List Interval → Type 0
LeaveRoom pitch intervals = All (λ a. FitsSigned w64 (a.right +ℤ pitch)) intervals

-- no interval ends before it begins
abbrev pub AreForward : List Interval → Type 0
AreForward intervals = (i : ℕ) (a : Interval) → slice_get intervals i ≡ Some a → a.left ≤ℤ a.right

-- each net has its lowest free track, and so many are used
pub record AreAssigned (pitch : ℤ) (intervals : List Interval) (track : List ℕ) (tracks : ℕ) : Type 0 where
  pub lowest : IsLowest pitch intervals track
  pub count : IsTrackCount track tracks
