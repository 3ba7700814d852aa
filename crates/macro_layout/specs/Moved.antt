-- A channel that stands elsewhere is drawn as it is, moved; and a channel is drawn in one way.
use Rattle.std.specs.Prelude.{◌≡◌, ◌↔◌, ℕ, ℤ, ◌+ℤ◌, List}
use Rattle.or_geom.specs.declared.shape.Shape.{Shape}
use Rattle.tech_rules.specs.declared.tech.Wire.{Wire}
use Rattle.channel_router.specs.declared.channel.Channel.{Channel}
use Rattle.channel_router.specs.declared.channel.ChannelPin.{ChannelPin}
use Rattle.channel_router.specs.declared.channel.Interval.{Interval}
use Rattle.channel_router.specs.Channel.{IsPinOf}
use Rattle.channel_router.specs.Wires.{IsOfNet}
use Rattle.sram_netlist.specs.Organization.{Organization}
use Rattle.macro_layout.specs.LayoutKit.{LayoutKit}
use Rattle.macro_layout.specs.Places.{Floorplan}
use Rattle.macro_layout.specs.Channels.{IsColumnChannel, IsMainChannel, IsRoutedBy, IsChannelWire}
use Rattle.macro_layout.specs.Stated.{IsShifted}

-- the same nets, so much further right
abbrev pub ArePinsMoved : ℤ → List ChannelPin → List ChannelPin → Type 0
ArePinsMoved dx from to = (net : ℕ) (x : ℤ) → IsPinOf to net (x +ℤ dx) ↔ IsPinOf from net x

-- the same channel, so much further right and up
pub record IsChannelMoved (dx dy : ℤ) (from to : Channel) : Type 0 where
  pub low : to.low ≡ from.low +ℤ dy
  pub nets : to.nets ≡ from.nets
  pub top : ArePinsMoved dx from.top to.top
  pub bottom : ArePinsMoved dx from.bottom to.bottom
  pub exits : ArePinsMoved dx from.exits to.exits

abbrev pub IsThe : Channel → Channel → Type 0
IsThe channel other = other ≡ channel

-- the nets' wires of a channel, as they are routed
abbrev pub IsOfSomeNet : Channel → Wire → List Interval → List ℕ → ℕ → Shape → Type 0
IsOfSomeNet ch wire intervals track tracks s = (net : ℕ) × IsOfNet ch wire intervals track tracks net s

-- The wires of the column channel of bank 0 are those of a routed channel that stands elsewhere, moved.
abbrev pub ColumnChannelsAreDrawn : Type 0
ColumnChannelsAreDrawn = (plan : Organization) (kit : LayoutKit) (wire : Wire) (floorplan : Floorplan) (meant ch : Channel) (dx dy : ℤ) (intervals : List Interval) (track : List ℕ) (tracks : ℕ)
    → IsColumnChannel plan kit wire floorplan meant → IsChannelMoved dx dy meant ch → IsRoutedBy (IsThe ch) wire tracks ch intervals track
    → (s t : Shape) → IsShifted dx dy s t → IsChannelWire (IsColumnChannel plan kit wire floorplan) wire tracks s ↔ IsOfSomeNet ch wire intervals track tracks t

-- The same of the main channel.
abbrev pub MainChannelsAreDrawn : Type 0
MainChannelsAreDrawn = (plan : Organization) (kit : LayoutKit) (wire : Wire) (floorplan : Floorplan) (meant ch : Channel) (dx dy : ℤ) (intervals : List Interval) (track : List ℕ) (tracks : ℕ)
    → IsMainChannel plan kit wire floorplan meant → IsChannelMoved dx dy meant ch → IsRoutedBy (IsThe ch) wire tracks ch intervals track
    → (s t : Shape) → IsShifted dx dy s t → IsChannelWire (IsMainChannel plan kit wire floorplan) wire tracks s ↔ IsOfSomeNet ch wire intervals track tracks t
