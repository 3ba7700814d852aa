-- The channels of a device.
use Rattle.std.specs.Prelude.{◌≢◌, List}
use Rattle.std.specs.declared.cmp.Ordering.TheVariants.{Greater}
use Rattle.or_geom.specs.declared.shape.Point.{Point}
use Rattle.or_geom.specs.declared.shape.Shape.{Shape}
use Rattle.tech_rules.specs.declared.tech.Device.{Device}
use Rattle.cell_hierarchy.specs.FlatLists.{point_order}
use Rattle.drawn_devices.specs.Cells.{LiesOn, ShareSide}
use Rattle.tech_rules.specs.Linked.{AreLinked}

-- the cell lies in a shape of the device's gate layer, in one of its active layer and in one of its `by` layer
pub record IsChannelCell (shapes : List Shape) (device : Device) (cell : Point) : Type 0 where
  pub gate : LiesOn shapes device.gate cell
  pub active : LiesOn shapes device.active cell
  pub by : LiesOn shapes device.by cell

-- A channel is a set of such cells that isn't empty, is connected by sides, and is maximal: no other such cell shares a side
-- with one of its cells.
pub record IsDeviceChannel (shapes : List Shape) (device : Device) (set : Point → Type 0) : Type 0 where
  pub cell : Point
  pub some : set cell
  pub each : (p : Point) → set p → IsChannelCell shapes device p
  pub connected : (p q : Point) → set p → set q → AreLinked set ShareSide p q
  pub maximal : (p q : Point) → set p → IsChannelCell shapes device q → ShareSide p q → set q

-- The channel in which a channel cell lies: the cells to which a list of channel cells leads, each sharing a side with the
-- next. (The law `channels_are_these` says that this set is a channel, and that each channel is one of these.)
abbrev pub ChannelOf : List Shape → Device → Point → Point → Type 0
ChannelOf shapes device cell = AreLinked (IsChannelCell shapes device) ShareSide cell

-- the least cell of its channel, by x and then y
pub record IsLeastCell (shapes : List Shape) (device : Device) (cell : Point) : Type 0 where
  pub of : IsChannelCell shapes device cell
  pub least : (other : Point) → ChannelOf shapes device cell other → point_order cell other ≢ Greater
