-- The channels of the first devices.
use Rattle.std.specs.Prelude.{◌≡◌, ℕ, ◌<◌, List, Contains, slice_get, Some}
use Rattle.std.specs.List.Sorted.{IsStrictlySortedBy}
use Rattle.or_geom.specs.declared.shape.Point.{Point}
use Rattle.or_geom.specs.declared.shape.Rect.{Rect}
use Rattle.tech_rules.specs.declared.tech.Device.{Device}
use Rattle.drawn_devices.specs.declared.cut_cell.CutCell.{CutCell}
use Rattle.drawn_devices.specs.declared.drawn.DeviceChannel.{DeviceChannel}
use Rattle.drawn_devices.specs.ChannelBoxes.{low_cell}
use Rattle.drawn_devices.specs.Channels.{IsLeastCell}
use Rattle.drawn_devices.specs.Drawn.{IsListedChannel, HasChannelAt, channel_order}
use Rattle.drawn_devices.specs.Nets.{Member}
use Rattle.drawn_devices.specs.Numbers.{AreNumbersIn}

-- a channel of the cell, with the numbers of its terminals
abbrev pub IsDrawnIn : CutCell → (Member → ℕ) → DeviceChannel → Type 0
IsDrawnIn cell number channel = IsListedChannel cell.tech.now cell.shapes.now number channel

-- the channel of the device with this index whose first box is that of the list
pub record IsChannelOf (cell : CutCell) (index : ℕ) (boxes : List Rect) (channel : DeviceChannel) : Type 0 where
  pub drawn : (number : Member → ℕ) → AreNumbersIn cell number → IsDrawnIn cell number channel
  pub device : channel.device ≡ index
  pub first : Rect
  pub begins : slice_get boxes 0 ≡ Some first
  pub least : channel.least ≡ low_cell first

-- those of the first devices, in order and once
pub record AreFirstChannels (cell : CutCell) (count : ℕ) (channels : List DeviceChannel) : Type 0 where
  pub rise : IsStrictlySortedBy channel_order channels
  pub each : (number : Member → ℕ) → AreNumbersIn cell number → (channel : DeviceChannel) → Contains channels channel → (channel.device < count) × IsDrawnIn cell number channel
  pub all : (index : ℕ) (device : Device) (least : Point) → index < count → slice_get cell.tech.now.devices index ≡ Some device → IsLeastCell cell.shapes.now device least → HasChannelAt channels index least
