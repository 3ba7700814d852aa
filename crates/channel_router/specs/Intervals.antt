-- A net's interval: from its least x to its greatest over pins and exits.
use Rattle.std.specs.Prelude.{◌≡◌, ℕ, ℤ, ◌≤ℤ◌, List, length, All, slice_get, Some}
use Rattle.or_geom.specs.Distance.{IsNear}
use Rattle.channel_router.specs.declared.channel.Channel.{Channel}
use Rattle.channel_router.specs.declared.channel.ChannelPin.{ChannelPin}
use Rattle.channel_router.specs.declared.channel.Interval.{Interval}
use Rattle.channel_router.specs.Channel.{IsPinOf, places}

-- it begins and ends at a pin or exit of the net, and none lies outside
pub record IsIntervalOf (pins : List ChannelPin) (net : ℕ) (interval : Interval) : Type 0 where
  pub begins : IsPinOf pins net interval.left
  pub ends : IsPinOf pins net interval.right
  pub least : (x : ℤ) → IsPinOf pins net x → interval.left ≤ℤ x
  pub greatest : (x : ℤ) → IsPinOf pins net x → x ≤ℤ interval.right

-- the list has each net's interval, in the order of nets
pub record AreIntervals (ch : Channel) (intervals : List Interval) : Type 0 where
  pub each : length intervals ≡ ch.nets
  pub of_net : (net : ℕ) (interval : Interval) → slice_get intervals net ≡ Some interval → IsIntervalOf (places ch) net interval

-- coordinates within 2^40
pub record IsNearInterval (interval : Interval) : Type 0 where
  pub left : IsNear interval.left
  pub right : IsNear interval.right

abbrev pub AreNearIntervals : List Interval → Type 0
AreNearIntervals = All IsNearInterval
