-- The transistors that a cell draws, with their nets as numbers.
use Rattle.std.specs.Prelude.{◌≡◌, ◌↔◌, ℕ, List, [], ◌∷◌, Contains, slice_get, Option, Some, None}
use Rattle.std.specs.Ordering.{ordering_then, nat_cmp}
use Rattle.std.specs.List.Sorted.{IsStrictlySortedBy}
use Rattle.std.specs.declared.cmp.Ordering.{Ordering}
use Rattle.or_geom.specs.declared.shape.Point.{Point}
use Rattle.or_geom.specs.declared.shape.Rect.{Rect}
use Rattle.or_geom.specs.declared.shape.Shape.{Shape}
use Rattle.element_drawing.specs.PlainLabel.{PlainLabel}
use Rattle.tech_rules.specs.declared.tech.Device.{Device}
use Rattle.tech_rules.specs.declared.tech.Tech.{Tech}
use Rattle.cell_hierarchy.specs.FlatLists.{point_order}
use Rattle.drawn_devices.specs.declared.drawn.DeviceChannel.{DeviceChannel}
use Rattle.drawn_devices.specs.declared.drawn.DrawnDevices.{DrawnDevices}
use Rattle.drawn_devices.specs.declared.drawn.Flow.{Flow}
use Rattle.drawn_devices.specs.declared.drawn.NetName.{NetName}
use Rattle.drawn_devices.specs.declared.drawn.Side.{Side}
use Rattle.drawn_devices.specs.declared.drawn.Terminals.{Terminals}
use Rattle.drawn_devices.specs.Channels.{IsLeastCell}
use Rattle.drawn_devices.specs.Names.{IsNamed}
use Rattle.drawn_devices.specs.Nets.{Member, Drawn, Diffused, IsMember, AreOnDrawnNet}
use Rattle.drawn_devices.specs.Sides.{IsAlong, first_side, second_side}
use Rattle.drawn_devices.specs.Sound.{IsGateOf, IsSoundChannel}

-- two members have one number exactly where they are on one net
abbrev pub AreNetNumbers : Tech → List Shape → (Member → ℕ) → Type 0
AreNetNumbers tech shapes number = (a b : Member) → IsMember tech shapes a → IsMember tech shapes b → (number a ≡ number b) ↔ AreOnDrawnNet tech shapes a b

-- the number of the diffusion along a side of the box
abbrev pub IsNumberAlong : (Member → ℕ) → ℕ → Rect → Side → ℕ → Type 0
IsNumberAlong number layer box side net = (cell : Point) → IsAlong side box cell → net ≡ number (Diffused layer cell)

-- the channel is sound, and these are the numbers of its gates' net and of those of its two open sides
pub record AreTerminals (tech : Tech) (shapes : List Shape) (number : Member → ℕ) (device : Device) (least : Point) (terminals : Terminals) : Type 0 where
  pub box : Rect
  pub flow : Flow
  pub sound : IsSoundChannel tech shapes device least box flow
  pub gate : (gate : Shape) → IsGateOf shapes device box gate → terminals.gate ≡ number (Drawn gate)
  pub first : IsNumberAlong number device.active box (first_side flow) terminals.first
  pub second : IsNumberAlong number device.active box (second_side flow) terminals.second

-- no box and flow make it sound
abbrev pub IsUnsound : Tech → List Shape → Device → Point → Type 0
IsUnsound tech shapes device least = (box : Rect) (flow : Flow) → IsSoundChannel tech shapes device least box flow → ⊥

abbrev pub TerminalsAre : Tech → List Shape → (Member → ℕ) → Device → Point → Option Terminals → Type 0
TerminalsAre tech shapes number device least None = IsUnsound tech shapes device least
TerminalsAre tech shapes number device least (Some terminals) = AreTerminals tech shapes number device least terminals

-- a channel of the device with this index, by its least cell, with its terminals if it is sound
pub record IsListedChannel (tech : Tech) (shapes : List Shape) (number : Member → ℕ) (channel : DeviceChannel) : Type 0 where
  pub device : Device
  pub there : slice_get tech.devices channel.device ≡ Some device
  pub least : IsLeastCell shapes device channel.least
  pub terminals : TerminalsAre tech shapes number device channel.least channel.terminals

-- a name of the net with this number
pub record IsNetName (tech : Tech) (shapes : List Shape) (labels : List PlainLabel) (number : Member → ℕ) (entry : NetName) : Type 0 where
  pub shape : Shape
  pub named : IsNamed tech shapes labels entry.name shape
  pub net : entry.net ≡ number (Drawn shape)

-- by device and then by least cell
abbrev pub channel_order : DeviceChannel → DeviceChannel → Ordering
channel_order a b = ordering_then (nat_cmp a.device b.device) (point_order a.least b.least)

-- the channel of the device with this index that has this least cell is listed
pub record HasChannelAt (channels : List DeviceChannel) (device : ℕ) (least : Point) : Type 0 where
  pub channel : DeviceChannel
  pub listed : Contains channels channel
  pub of : channel.device ≡ device
  pub at : channel.least ≡ least

-- Some numbers stand for the nets. The names are exactly those that labels give to nets. The channels are all that the cell
-- draws and no others, each once, by device and then by least cell.
pub record AreDrawnDevices (tech : Tech) (shapes : List Shape) (labels : List PlainLabel) (drawn : DrawnDevices) : Type 0 where
  pub number : Member → ℕ
  pub nets : AreNetNumbers tech shapes number
  pub names : (entry : NetName) → Contains drawn.names entry ↔ IsNetName tech shapes labels number entry
  pub rise : IsStrictlySortedBy channel_order drawn.channels
  pub each : (channel : DeviceChannel) → Contains drawn.channels channel → IsListedChannel tech shapes number channel
  pub all : (index : ℕ) (device : Device) (least : Point) → slice_get tech.devices index ≡ Some device → IsLeastCell shapes device least → HasChannelAt drawn.channels index least

-- what one label gives: a name of the net of the shape that it binds, or none
abbrev pub GivesName : Tech → List Shape → (Member → ℕ) → PlainLabel → Option NetName → Type 0
GivesName tech shapes number label None = (entry : NetName) → IsNetName tech shapes (label ∷ []) number entry → ⊥
GivesName tech shapes number label (Some given) = (entry : NetName) → IsNetName tech shapes (label ∷ []) number entry ↔ (entry ≡ given)
