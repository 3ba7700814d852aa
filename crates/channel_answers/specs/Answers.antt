-- What there is of any channel, of any numbers and of any rails.
use Rattle.std.specs.Prelude.{◌≡◌, ◌⊎◌, ℕ, ◌≤◌, ◌+◌, ◌*◌, ◌^◌, ℤ, List, length}
use Rattle.or_geom.specs.declared.shape.Shape.{Shape}
use Rattle.wire_drawing.specs.declared.route.Tap.{Tap}
use Rattle.tech_rules.specs.declared.tech.Wire.{Wire}
use Rattle.tech_rules.specs.Facts.{AreSizes}
use Rattle.wire_drawing.specs.Spacing.{AreClose, AreFirstClose}
use Rattle.channel_router.specs.declared.channel.Channel.{Channel}
use Rattle.channel_router.specs.declared.channel.Interval.{Interval}
use Rattle.channel_router.specs.declared.channel.Routed.{Routed}
use Rattle.channel_router.specs.Channel.{IsChannel}
use Rattle.channel_router.specs.Routed.{AreFirstClosePins, HasClosePins, IsRouted}
use Rattle.rail_bus.specs.Rails.{AreRails}

-- the channel is routed, with a track for each net and with as many tracks as nets at most; its shapes are at most 2^44 a net
pub record HasRouting (ch : Channel) (wire : Wire) : Type 0 where
  pub intervals : List Interval
  pub routed : Routed
  pub is : IsRouted ch wire intervals routed
  pub each : length routed.track ≡ ch.nets
  pub short : length routed.shapes ≤ ch.nets * 2 ^ 44
  pub few : routed.tracks ≤ ch.nets

-- Each channel has a routing.
abbrev pub ChannelsAreRouted : Type 0
ChannelsAreRouted = (ch : Channel) (wire : Wire) → IsChannel ch → AreSizes wire → HasRouting ch wire

-- no two numbers are closer than the pitch, or there are the lowest two that are
abbrev pub HasFirstClose : ℤ → List ℤ → Type 0
HasFirstClose pitch xs = (AreClose pitch xs → ⊥) ⊎ ((first : ℤ) × (second : ℤ) × AreFirstClose pitch xs first second)

-- Of any numbers that is so.
abbrev pub CloseNumbersAreFound : Type 0
CloseNumbersAreFound = (pitch : ℤ) (xs : List ℤ) → HasFirstClose pitch xs

-- the first two close pins of one side
abbrev pub AreSomeClosePins : Channel → Wire → Type 0
AreSomeClosePins ch wire = (side : ℕ) × (first : ℤ) × (second : ℤ) × AreFirstClosePins ch wire side first second

-- No pins of a channel are too close, or there are the first two that are.
abbrev pub ClosePinsAreFound : Type 0
ClosePinsAreFound = (ch : Channel) (wire : Wire) → (HasClosePins ch wire → ⊥) ⊎ AreSomeClosePins ch wire

-- rails and taps have their shapes, at most two a tap and one a rail
pub record AreDrawn (low : ℤ) (xs : List ℤ) (taps : List Tap) (wire : Wire) : Type 0 where
  pub shapes : List Shape
  pub are : AreRails low xs taps wire shapes
  pub few : length shapes ≤ length taps * 2 + length xs

-- All rails do.
abbrev pub RailsHaveShapes : Type 0
RailsHaveShapes = (low : ℤ) (xs : List ℤ) (taps : List Tap) (wire : Wire) → AreDrawn low xs taps wire
