-- Wires near the origin, on the layers of wires.
use Rattle.std.specs.Prelude.{◌≡◌, ◌⊎◌, ℕ, ◌^◌, ◌-◌, ◌<◌, ◌≤◌, ℤ, pos, ◌+ℤ◌, ◌≤ℤ◌, List, length, All, Contains}
use Rattle.std.specs.List.{AllByRecursion}
use Rattle.or_geom.specs.declared.shape.Shape.{Shape}
use Rattle.wire_drawing.specs.declared.route.Tap.{Tap}
use Rattle.tech_rules.specs.declared.tech.Layer.{Layer}
use Rattle.tech_rules.specs.declared.tech.Wire.{Wire}
use Rattle.wire_drawing.specs.Drawing.{pitch}
use Rattle.tech_rules.specs.Facts.{AreSizes, IsWire}
use Rattle.channel_router.specs.declared.channel.Channel.{Channel}
use Rattle.channel_router.specs.declared.channel.ChannelPin.{ChannelPin}
use Rattle.channel_router.specs.declared.channel.Interval.{Interval}
use Rattle.channel_router.specs.declared.channel.Routed.{Routed}
use Rattle.channel_router.specs.Intervals.{AreIntervals}
use Rattle.channel_router.specs.Density.{IsDensity}
use Rattle.channel_router.specs.Routed.{IsRouted}
use Rattle.rail_bus.specs.Rails.{AreRails}
use Rattle.cell_builder.specs.Writable.{IsWritableWire}

-- a coordinate from -most to most
pub record IsCoordinate (most : ℕ) (z : ℤ) : Type 0 where
  pub above : pos 0 ≤ℤ (z +ℤ pos most)
  pub below : z ≤ℤ pos most

-- a coordinate from 0 to most
pub record IsLengthUpTo (most : ℕ) (z : ℤ) : Type 0 where
  pub above : pos 0 ≤ℤ z
  pub below : z ≤ℤ pos most

-- the shape is on a layer of the wires, and lies within most
pub record IsWireShape (wire : Wire) (most : ℕ) (s : Shape) : Type 0 where
  pub on : Contains wire.metals s.layer ⊎ Contains wire.cuts s.layer
  pub left : IsCoordinate most s.rect.x1
  pub low : IsCoordinate most s.rect.y1
  pub right : IsCoordinate most s.rect.x2
  pub high : IsCoordinate most s.rect.y2

-- each of the list is such a shape
abbrev pub AreWireShapes : Wire → ℕ → List Shape → Type 0
AreWireShapes wire most = AllByRecursion (IsWireShape wire most)

-- a wire's sizes fit each other, and it has four metals and three cuts
pub record IsSevenLayerWire (wire : Wire) : Type 0 where
  pub sizes : AreSizes wire
  pub four : length wire.metals ≡ 4
  pub three : length wire.cuts ≡ 3

-- each pin of the list stands at an x from -most to most
abbrev pub ArePinsWithin : ℕ → List ChannelPin → Type 0
ArePinsWithin most = All (λ pin. IsCoordinate most pin.x)

-- the channel's lower end, its pins and its exits lie within 2^28
pub record IsChannelWithin (ch : Channel) : Type 0 where
  pub low : IsCoordinate (2 ^ 28) ch.low
  pub top : ArePinsWithin (2 ^ 28) ch.top
  pub bottom : ArePinsWithin (2 ^ 28) ch.bottom
  pub exits : ArePinsWithin (2 ^ 28) ch.exits

-- The shapes of a near channel of at most 4096 tracks lie within 2^30.
abbrev pub RoutedShapesAreNear : Type 0
RoutedShapesAreNear = (ch : Channel) (wire : Wire) (intervals : List Interval) (routed : Routed) → IsSevenLayerWire wire → IsChannelWithin ch → IsRouted ch wire intervals routed → routed.tracks ≤ 4096 → AreWireShapes wire (2 ^ 30) routed.shapes

-- A density is at most the number of nets.
abbrev pub TracksAreFew : Type 0
TracksAreFew = (ch : Channel) (wire : Wire) (intervals : List Interval) (tracks : ℕ) → AreIntervals ch intervals → IsDensity (pitch wire) intervals tracks → tracks ≤ ch.nets

-- rails up to 2^28, and taps so low and so far left that their wires end within 2^30
pub record AreNearRails (xs : List ℤ) (taps : List Tap) : Type 0 where
  pub rails : All (IsLengthUpTo (2 ^ 28)) xs
  pub heights : All (λ tap. IsLengthUpTo (2 ^ 30 - 2 ^ 18) tap.y) taps
  pub ends : All (λ tap. IsLengthUpTo (2 ^ 29) tap.end) taps

-- The shapes of near rails and taps lie within 2^30.
abbrev pub RailShapesAreNear : Type 0
RailShapesAreNear = (xs : List ℤ) (taps : List Tap) (wire : Wire) (shapes : List Shape) → IsSevenLayerWire wire → AreNearRails xs taps → AreRails (pos 0) xs taps wire shapes → AreWireShapes wire (2 ^ 30) shapes

-- Shapes whose coordinates fit 32 bits can be written.
abbrev pub NearWiresAreWritable : Type 0
NearWiresAreWritable = (wire : Wire) (most : ℕ) (shapes : List Shape) → most < 2 ^ 31 → AreWireShapes wire most shapes → AllByRecursion IsWritableWire shapes

-- What is near shape by shape is near as a list.
abbrev pub ListedShapesAreNear : Type 0
ListedShapesAreNear = (wire : Wire) (most : ℕ) (shapes : List Shape) → ((s : Shape) → Contains shapes s → IsWireShape wire most s) → AreWireShapes wire most shapes

-- What lies within one bound lies within a greater one.
abbrev pub GreaterBoundsHold : Type 0
GreaterBoundsHold = (wire : Wire) (few most : ℕ) (s : Shape) → few ≤ most → IsWireShape wire few s → IsWireShape wire most s

-- Near shapes are on layers that are there.
abbrev pub NearShapesHaveLayers : Type 0
NearShapesHaveLayers = (layers : List Layer) (wire : Wire) (most : ℕ) (shapes : List Shape) → IsWire layers wire → AreWireShapes wire most shapes → AllByRecursion (λ (s : Shape). s.layer < length layers) shapes
