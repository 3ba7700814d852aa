-- The taps of a bank's rails, from the bank's lower edge.
use Rattle.std.specs.Prelude.{◌≡◌, ℕ, ◌+◌, ◌-◌, ◌*◌, ℤ, pos, ◌+ℤ◌, ◌-ℤ◌, ◌≤ℤ◌, List, ◌∷◌, ◌++◌, Some, slice_get, slice_index}
use Rattle.or_geom.specs.declared.shape.Rect.{Rect}
use Rattle.or_geom.specs.declared.shape.Shape.{Shape}
use Rattle.cell_roles.specs.declared.role.Role.{Role}
use Rattle.cell_roles.specs.declared.role.Role.TheVariants.{Precharge, Sense}
use Rattle.wire_drawing.specs.declared.route.Tap.{Tap}
use Rattle.tech_rules.specs.declared.tech.Wire.{Wire}
use Rattle.wire_drawing.specs.Drawing.{pitch}
use Rattle.wire_drawing.specs.Spacing.{AreClose, AreFirstClose}
use Rattle.channel_router.specs.declared.channel.Routed.{Routed}
use Rattle.channel_router.specs.Wires.{channel_height}
use Rattle.rail_bus.specs.Rails.{tap_ys, AreRails}
use Rattle.sram_netlist.specs.Organization.{Organization, columns_of}
use Rattle.sram_netlist.specs.InstanceList.{tabulate}
use Rattle.leaf_shapes.specs.declared.pins.LeafPin.{LeafPin}
use Rattle.leaf_tables.specs.declared.kit.Leaf.{Leaf}
use Rattle.leaf_tables.specs.declared.kit.Kit.{Kit}
use Rattle.leaf_tables.specs.declared.part.PartFault.{PartFault}
use Rattle.leaf_tables.specs.declared.part.PartFault.TheVariants as part_fault
use Rattle.leaf_tables.specs.Alignment.{leaf_in}
use Rattle.macro_layout.specs.LayoutKit.{LayoutKit}
use Rattle.macro_layout.specs.Places.{Floorplan, columns_x, bit_width, upright}
use Rattle.macro_layout.specs.Cells.{slice_x}
use Rattle.macro_layout.specs.Floorplan.{IsFloorplan, line_count, choice_count, rail_count, rail_x, column_channel_y}
use Rattle.floorplan.specs.LayoutOfKit.{layout_kit}
use Rattle.row_decoder.specs.RowTaps.{corner_at, pin_tap, AreTapsOfRows}

-- the rectangle lies in a cell with sides of at most 65,536
pub record IsInCell (r : Rect) : Type 0 where
  pub left : pos 0 ≤ℤ r.x1
  pub low : pos 0 ≤ℤ r.y1
  pub right : r.x2 ≤ℤ pos 65536
  pub high : r.y2 ≤ℤ pos 65536

-- the pin at this place among the pins of the role's leaf
pub record IsLeafPin (leaves : List Leaf) (role : Role) (place : ℕ) (pin : LeafPin) : Type 0 where
  pub leaf : Leaf
  pub there : leaf_in leaves role ≡ Some leaf
  pub at : slice_get leaf.pins place ≡ Some pin

-- it is the tap of that pin
pub record IsLeafTap (leaves : List Leaf) (role : Role) (place : ℕ) (tap_of : LeafPin → Tap) (tap : Tap) : Type 0 where
  pub pin : LeafPin
  pub is : IsLeafPin leaves role place pin
  pub tap_is : tap ≡ tap_of pin

-- The enable of the last sense cell, on the rail behind the word line enable.
abbrev pub sense_tap : Organization → LayoutKit → Floorplan → LeafPin → Tap
sense_tap plan kit floorplan pin =
    pin_tap (line_count plan.groups + 1) (upright (columns_x plan kit floorplan +ℤ pos (slice_x plan kit (plan.word_size - 1))) (floorplan.sense_y -ℤ floorplan.write_y)) pin

-- The enable of the last precharge cell, on the next rail.
abbrev pub precharge_tap : Organization → LayoutKit → Floorplan → LeafPin → Tap
precharge_tap plan kit floorplan pin =
    pin_tap (line_count plan.groups + 2) (upright (columns_x plan kit floorplan +ℤ pos ((columns_of plan - 1) * bit_width kit)) (floorplan.precharge_y -ℤ floorplan.write_y)) pin

-- A tap along the trunk of a column choice, which is on this track of a channel that begins at `low`: it ends at its rail's
-- right edge.
abbrev pub choice_tap : Wire → ℤ → ℕ → List ℕ → ℕ → Tap
choice_tap wire low first track k =
    record { rail = first + k; y = low +ℤ channel_height wire (slice_index track k); end = rail_x wire (first + k) +ℤ wire.width }

-- where the column channel begins
abbrev pub channel_low : LayoutKit → Floorplan → ℤ
channel_low kit floorplan = column_channel_y kit floorplan -ℤ floorplan.write_y

-- The taps of a bank: those of its rows, the sense enable, the inverted clock, and the column choices on these tracks.
pub record AreBankTaps (leaves : List Leaf) (plan : Organization) (kit : LayoutKit) (wire : Wire) (floorplan : Floorplan) (track : List ℕ) (taps : List Tap) : Type 0 where
  pub rows : List Tap
  pub of_rows : AreTapsOfRows leaves plan (corner_at floorplan.row_x (floorplan.array_y -ℤ floorplan.write_y)) rows
  pub sense : LeafPin
  pub is_sense : IsLeafPin leaves Sense 3 sense
  pub precharge : LeafPin
  pub is_precharge : IsLeafPin leaves Precharge 2 precharge
  pub are : taps ≡ rows ++ (sense_tap plan kit floorplan sense ∷ precharge_tap plan kit floorplan precharge
      ∷ tabulate (choice_count plan.col_bits) (choice_tap wire (channel_low kit floorplan) (line_count plan.groups + 3) track))

-- no two of the bank's taps, of which there is no other list, are too close
pub record AreTapsApart (leaves : List Leaf) (plan : Organization) (kit : LayoutKit) (wire : Wire) (floorplan : Floorplan) (track : List ℕ) : Type 0 where
  pub taps : List Tap
  pub are : AreBankTaps leaves plan kit wire floorplan track taps
  pub only : (other : List Tap) → AreBankTaps leaves plan kit wire floorplan track other → other ≡ taps
  pub apart : AreClose (pitch wire) (tap_ys taps) → ⊥

-- the lowest two of the bank's taps that are too close
pub record AreTapsClose (leaves : List Leaf) (plan : Organization) (kit : LayoutKit) (wire : Wire) (floorplan : Floorplan) (track : List ℕ) (first second : ℤ) : Type 0 where
  pub taps : List Tap
  pub are : AreBankTaps leaves plan kit wire floorplan track taps
  pub close : AreFirstClose (pitch wire) (tap_ys taps) first second

-- taps are too close, or memory ran out
abbrev pub IsBankFault : List Leaf → Organization → LayoutKit → Wire → Floorplan → List ℕ → PartFault → Type 0
IsBankFault leaves plan kit wire floorplan track (part_fault.TapsClose first second) = AreTapsClose leaves plan kit wire floorplan track first second
IsBankFault leaves plan kit wire floorplan track part_fault.Memory = Unit {0}
IsBankFault leaves plan kit wire floorplan track fault = ⊥

-- so on a floorplan of a macro whose column channel is routed so, however many tracks its main channel has
pub record AreTapsRefused (kit : Kit) (plan : Organization) (wire : Wire) (column : Routed) (fault : PartFault) : Type 0 where
  pub tracks : ℕ
  pub floorplan : Floorplan
  pub stands : IsFloorplan plan (layout_kit kit) wire (record { main = tracks; column = column.tracks }) floorplan
  pub is : IsBankFault kit.leaves plan (layout_kit kit) wire floorplan column.track fault

-- the shapes are the rails of a bank and the wires of their taps
pub record AreBankRails (leaves : List Leaf) (plan : Organization) (kit : LayoutKit) (wire : Wire) (floorplan : Floorplan) (track : List ℕ) (shapes : List Shape) : Type 0 where
  pub taps : List Tap
  pub are : AreBankTaps leaves plan kit wire floorplan track taps
  pub drawn : AreRails (pos 0) (tabulate (rail_count plan) (rail_x wire)) taps wire shapes
