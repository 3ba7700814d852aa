-- What a routed channel is, and which pins are too close.
use Rattle.std.specs.Prelude.{◌≡◌, ◌⊎◌, ℕ, ℤ, List, map}
use Rattle.wire_drawing.specs.declared.route.RouteFault.{RouteFault}
use Rattle.wire_drawing.specs.declared.route.RouteFault.TheVariants.{Close, TapsClose, Memory}
use Rattle.tech_rules.specs.declared.tech.Wire.{Wire}
use Rattle.wire_drawing.specs.Drawing.{pitch}
use Rattle.wire_drawing.specs.Spacing.{AreClose, AreFirstClose}
use Rattle.channel_router.specs.declared.channel.Channel.{Channel}
use Rattle.channel_router.specs.declared.channel.ChannelPin.{ChannelPin}
use Rattle.channel_router.specs.declared.channel.Interval.{Interval}
use Rattle.channel_router.specs.declared.channel.Routed.{Routed}
use Rattle.channel_router.specs.Intervals.{AreIntervals}
use Rattle.channel_router.specs.Tracks.{IsLowest, IsTrackCount}
use Rattle.channel_router.specs.Wires.{AreWires, channel_height}

-- each net is on its lowest free track, so many tracks are used, and the shapes are those of the nets on their tracks
pub record IsRouted (ch : Channel) (wire : Wire) (intervals : List Interval) (routed : Routed) : Type 0 where
  pub nets : AreIntervals ch intervals
  pub lowest : IsLowest (pitch wire) intervals routed.track
  pub count : IsTrackCount routed.track routed.tracks
  pub height : routed.height ≡ channel_height wire routed.tracks
  pub wires : AreWires ch wire intervals routed.track routed.tracks routed.shapes

-- the places of the pins in x
abbrev pub pin_xs : List ChannelPin → List ℤ
pin_xs = map (λ pin. pin.x)

-- two pins of one side are nearer to each other than the pitch
abbrev pub HasClosePins : Channel → Wire → Type 0
HasClosePins ch wire = AreClose (pitch wire) (pin_xs ch.top) ⊎ AreClose (pitch wire) (pin_xs ch.bottom)

-- the first two pins that are, those of the top (side 0) before those of the bottom (side 1)
abbrev pub AreFirstClosePins : Channel → Wire → ℕ → ℤ → ℤ → Type 0
AreFirstClosePins ch wire side first second =
    ((side ≡ 0) × AreFirstClose (pitch wire) (pin_xs ch.top) first second)
    ⊎ ((side ≡ 1) × (AreClose (pitch wire) (pin_xs ch.top) → ⊥) × AreFirstClose (pitch wire) (pin_xs ch.bottom) first second)

-- the fault names the first two pins of one side that are nearer to each other than the pitch, or is want of memory
abbrev pub IsRouteFault : Channel → Wire → RouteFault → Type 0
IsRouteFault ch wire (Close side first second) = AreFirstClosePins ch wire side first second
IsRouteFault ch wire (TapsClose first second) = ⊥
IsRouteFault ch wire Memory = Unit {0}
