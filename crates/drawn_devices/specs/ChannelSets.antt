-- Channels as sets of cells.
use Rattle.std.specs.Prelude.{◌↔◌, Bool, IsTrue, List}
use Rattle.or_geom.specs.declared.shape.Point.{Point}
use Rattle.or_geom.specs.declared.shape.Shape.{Shape}
use Rattle.tech_rules.specs.declared.tech.Device.{Device}
use Rattle.drawn_devices.specs.Channels.{IsChannelCell, IsDeviceChannel, ChannelOf}

-- the cells to which lists lead from a channel cell are a channel
abbrev pub TheseAreChannels : Type 0
TheseAreChannels = (shapes : List Shape) (device : Device) (cell : Point) → IsChannelCell shapes device cell → IsDeviceChannel shapes device (ChannelOf shapes device cell)

-- a channel, as a test of cells, has exactly the cells to which lists lead from one of its own
abbrev pub ChannelsAreThese : Type 0
ChannelsAreThese = (shapes : List Shape) (device : Device) (test : Point → Bool) (cell other : Point) → IsDeviceChannel shapes device (λ p. IsTrue (test p)) → IsTrue (test cell) → IsTrue (test other) ↔ ChannelOf shapes device cell other
