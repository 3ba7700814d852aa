-- Intervals that are widened pin by pin.
use Rattle.std.specs.Prelude.{◌≡◌, ◌⊎◌, ℕ, ℤ, pos, negsuc, ◌≤ℤ◌, List, ◌++◌, length, slice_get, Some}
use Rattle.channel_router.specs.declared.channel.ChannelPin.{ChannelPin}
use Rattle.channel_router.specs.declared.channel.Interval.{Interval}
use Rattle.channel_router.specs.Channel.{IsPinOf}

-- the least interval that holds the net's pins, or one that holds nothing
pub record IsHull (pins : List ChannelPin) (net : ℕ) (interval : Interval) : Type 0 where
  pub begins : (interval.left ≡ pos 9223372036854775807) ⊎ IsPinOf pins net interval.left
  pub ends : (interval.right ≡ negsuc 9223372036854775807) ⊎ IsPinOf pins net interval.right
  pub least : (x : ℤ) → IsPinOf pins net x → interval.left ≤ℤ x
  pub greatest : (x : ℤ) → IsPinOf pins net x → x ≤ℤ interval.right

-- one for each net
abbrev pub AreHulls : List ChannelPin → List Interval → Type 0
AreHulls pins intervals = (net : ℕ) (interval : Interval) → slice_get intervals net ≡ Some interval → IsHull pins net interval

-- intervals that held some pins hold these too
pub record Widens (pins : List ChannelPin) (old new : List Interval) : Type 0 where
  pub each : length new ≡ length old
  pub hulls : (before : List ChannelPin) → AreHulls before old → AreHulls (before ++ pins) new
