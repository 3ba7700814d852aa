-- The column channel of a bank, routed from the left end of its columns and the lower edge of its data.
use Rattle.std.specs.Prelude.{◌≡◌, ◌⊎◌, ◌↔◌, ℕ, ◌≤◌, ◌<◌, ◌+◌, ◌*◌, ◌^◌, ℤ, pos, ◌+ℤ◌, ◌-ℤ◌, ◌≤ℤ◌, List, All, Contains, Some, length, slice_get}
use Rattle.or_geom.specs.declared.shape.Shape.{Shape}
use Rattle.cell_roles.specs.Roles.{role_name}
use Rattle.cell_roles.specs.declared.role.Role.TheVariants.{Sense, Write, Bitcell}
use Rattle.tech_rules.specs.declared.tech.Wire.{Wire}
use Rattle.channel_router.specs.declared.channel.Channel.{Channel}
use Rattle.channel_router.specs.declared.channel.Routed.{Routed}
use Rattle.channel_router.specs.declared.channel.ChannelPin.{ChannelPin}
use Rattle.channel_router.specs.declared.channel.Interval.{Interval}
use Rattle.channel_router.specs.Routed.{HasClosePins, AreFirstClosePins, IsRouted}
use Rattle.channel_router.specs.Wires.{channel_height}
use Rattle.sram_netlist.specs.Organization.{Organization, IsWritten, words_per_row}
use Rattle.leaf_tables.specs.declared.kit.Kit.{Kit}
use Rattle.leaf_tables.specs.declared.part.PartFault.{PartFault}
use Rattle.leaf_tables.specs.declared.part.PartFault.TheVariants as part_fault
use Rattle.macro_layout.specs.LayoutKit.{LayoutKit}
use Rattle.macro_layout.specs.Places.{Floorplan, columns_x}
use Rattle.macro_layout.specs.Floorplan.{rail_x, rail_count, choice_count, write_height, column_channel_y}
use Rattle.macro_layout.specs.Channels.{IsColumnChannel, IsChannelWire, IsTrunkAt}
use Rattle.macro_layout.specs.Moved.{IsChannelMoved}
use Rattle.macro_layout.specs.Stated.{IsShifted}
use Rattle.floorplan.specs.LayoutOfKit.{layout_kit}
use Rattle.port_data.specs.Pins.{column_channel}

-- the rows begin behind the rails, and the sense cells stand on the write cells, if there are any
pub record IsBankFloorplan (plan : Organization) (kit : LayoutKit) (wire : Wire) (floorplan : Floorplan) : Type 0 where
  pub row_x : floorplan.row_x ≡ rail_x wire (rail_count plan)
  pub sense_y : floorplan.sense_y ≡ floorplan.write_y +ℤ pos (write_height plan kit)

-- The routed channel has the wires and the trunks of the column channel, as much further left as the columns begin, and as much
-- further down as the data stand.
pub record IsColumnRouted (plan : Organization) (kit : LayoutKit) (wire : Wire) (floorplan : Floorplan) (routed : Routed) : Type 0 where
  pub wires : (s t : Shape) → IsShifted (pos 0 -ℤ columns_x plan kit floorplan) (pos 0 -ℤ floorplan.write_y) s t
      → IsChannelWire (IsColumnChannel plan kit wire floorplan) wire routed.tracks s ↔ Contains routed.shapes t
  pub trunks : (number : ℕ) (y : ℤ) → IsTrunkAt (IsColumnChannel plan kit wire floorplan) wire routed.tracks number y
      ↔ ((t : ℕ) × (slice_get routed.track number ≡ Some t) × (y ≡ column_channel_y kit floorplan +ℤ channel_height wire t))

-- a column channel, moved so
pub record IsDataChannel (plan : Organization) (kit : LayoutKit) (wire : Wire) (ch : Channel) : Type 0 where
  pub floorplan : Floorplan
  pub bank : IsBankFloorplan plan kit wire floorplan
  pub meant : Channel
  pub is : IsColumnChannel plan kit wire floorplan meant
  pub moved : IsChannelMoved (pos 0 -ℤ columns_x plan kit floorplan) (pos 0 -ℤ floorplan.write_y) meant ch

-- a cell is wider than the columns of a bit
abbrev pub IsTooWide : Organization → LayoutKit → ℕ → Type 0
IsTooWide plan kit width = words_per_row plan * kit.width Bitcell < width

-- the sense cell isn't, and where something is written the write cell isn't
pub record AreWideSlices (plan : Organization) (kit : LayoutKit) : Type 0 where
  pub sense : kit.width Sense ≤ words_per_row plan * kit.width Bitcell
  pub write : IsWritten plan → kit.width Write ≤ words_per_row plan * kit.width Bitcell

-- the sense cell is too wide, or else the write cell of a memory that is written, or memory ran out
abbrev pub IsNarrowFault : Organization → LayoutKit → PartFault → Type 0
IsNarrowFault plan kit (part_fault.SliceTooNarrow role) = ((role ≡ role_name Sense) × IsTooWide plan kit (kit.width Sense)) ⊎ ((role ≡ role_name Write) × IsWritten plan × (kit.width Sense ≤ words_per_row plan * kit.width Bitcell) × IsTooWide plan kit (kit.width Write))
IsNarrowFault plan kit part_fault.Memory = Unit {0}
IsNarrowFault plan kit fault = ⊥

-- Bounds

-- within 2^28
pub record IsChannelLength (z : ℤ) : Type 0 where
  pub above : pos 0 ≤ℤ (z +ℤ pos (2 ^ 28))
  pub below : z ≤ℤ pos (2 ^ 28)

abbrev pub AreNearPins : List ChannelPin → Type 0
AreNearPins = All (λ pin. IsChannelLength pin.x)

-- a channel of at most 1,024 nets whose lower end, pins and exits lie within 2^28
pub record IsNearColumnChannel (ch : Channel) : Type 0 where
  pub nets : ch.nets ≤ 1024
  pub low : IsChannelLength ch.low
  pub top : AreNearPins ch.top
  pub bottom : AreNearPins ch.bottom
  pub exits : AreNearPins ch.exits

-- it is such a channel, routed
pub record IsNearColumnRouted (wire : Wire) (routed : Routed) : Type 0 where
  pub channel : Channel
  pub near : IsNearColumnChannel channel
  pub intervals : List Interval
  pub is : IsRouted channel wire intervals routed

-- no two pins of one side of the column channel, listed by formula, are too close
abbrev pub AreColumnPinsApart : Organization → LayoutKit → Wire → Type 0
AreColumnPinsApart plan kit wire = HasClosePins (column_channel plan kit wire) wire → ⊥

-- The column channel of a kit and a plan, whose words have bits, routed: each of its nets has a track, it is the stated one on each
-- floorplan, and none of its pins are too close.
pub record IsColumnOf (kit : Kit) (plan : Organization) (routed : Routed) : Type 0 where
  pub words : 0 < plan.word_size
  pub few : routed.tracks ≤ 1024
  pub each : length routed.track ≡ choice_count plan.col_bits + 2 * plan.word_size
  pub near : (wire : Wire) → kit.tech.wire ≡ Some wire → IsNearColumnRouted wire routed
  pub stated : (wire : Wire) (floorplan : Floorplan) → kit.tech.wire ≡ Some wire → IsBankFloorplan plan (layout_kit kit) wire floorplan → IsColumnRouted plan (layout_kit kit) wire floorplan routed
  pub apart : (wire : Wire) → kit.tech.wire ≡ Some wire → AreColumnPinsApart plan (layout_kit kit) wire

-- two pins of one side are, and these are the first, or memory ran out
abbrev pub IsColumnFault : Organization → LayoutKit → Wire → PartFault → Type 0
IsColumnFault plan kit wire (part_fault.Close side first second) =
    IsDataChannel plan kit wire (column_channel plan kit wire) × AreFirstClosePins (column_channel plan kit wire) wire side first second
IsColumnFault plan kit wire part_fault.Memory = Unit {0}
IsColumnFault plan kit wire fault = ⊥
