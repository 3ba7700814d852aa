-- How many intervals are over one x, and the least number of tracks.
use Rattle.std.specs.Prelude.{◌≡◌, ℕ, suc, ◌≤◌, ℤ, pos, ◌<ℤ◌, ◌+ℤ◌, List, [], ◌∷◌, Bool, ◌&&◌, cond, int_le, int_lt}
use Rattle.channel_router.specs.declared.channel.Interval.{Interval}
use Rattle.channel_router.specs.Tracks.{AreForward, IsAssignment, IsLowest, IsTrackCount, AreTracksBelow}

-- an interval is over x from its left end on, and up to a pitch behind its right end
abbrev pub is_over : ℤ → ℤ → Interval → Bool
is_over pitch x interval = int_le interval.left x && int_lt x (interval.right +ℤ pitch)

abbrev pub number_over : ℤ → ℤ → List Interval → ℕ
number_over pitch x [] = 0
number_over pitch x (interval ∷ rest) = cond (is_over pitch x interval) (suc (number_over pitch x rest)) (number_over pitch x rest)

-- the greatest number of intervals over one x
pub record IsDensity (pitch : ℤ) (intervals : List Interval) (density : ℕ) : Type 0 where
  pub x : ℤ
  pub reached : number_over pitch x intervals ≡ density
  pub greatest : (y : ℤ) → number_over pitch y intervals ≤ density

-- each net's lowest free track makes an assignment
abbrev pub LowestIsAnAssignment : Type 0
LowestIsAnAssignment = (pitch : ℤ) (intervals : List Interval) (track : List ℕ) → IsLowest pitch intervals track → IsAssignment pitch intervals track

-- no assignment has fewer tracks than intervals over one x
abbrev pub DensityIsNeeded : Type 0
DensityIsNeeded = (pitch y : ℤ) (intervals : List Interval) (track : List ℕ) (n : ℕ) → IsAssignment pitch intervals track → AreTracksBelow track n → number_over pitch y intervals ≤ n

-- where each net has its lowest free track, the tracks are as many as the densest x has intervals
abbrev pub LowestHasTheDensity : Type 0
LowestHasTheDensity = (pitch : ℤ) (intervals : List Interval) (track : List ℕ) (tracks : ℕ) → pos 0 <ℤ pitch → AreForward intervals → IsLowest pitch intervals track → IsTrackCount track tracks → IsDensity pitch intervals tracks
