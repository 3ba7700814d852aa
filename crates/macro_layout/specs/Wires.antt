-- The wires and labels of a macro. Metals and cuts are counted from 0 in their lists.
use Rattle.std.specs.Prelude.{◌≡◌, ◌⊎◌, ◌<◌, ◌≤ℤ◌, ℕ, ◌+◌, ◌*◌, ◌%◌, ℤ, pos, ◌+ℤ◌, ◌-ℤ◌, ◌*ℤ◌, List, slice_get, slice_index, Some, codes}
use Rattle.std.specs.Int.{int_max}
use Rattle.or_geom.specs.declared.shape.Rect.{Rect}
use Rattle.or_geom.specs.declared.shape.Shape.{Shape}
use Rattle.cell_roles.specs.declared.role.Role.TheVariants.{Inv}
use Rattle.tech_rules.specs.declared.tech.Wire.{Wire}
use Rattle.wire_drawing.specs.Drawing.{pitch, IsBox, IsVia}
use Rattle.cell_builder.specs.declared.cell.PlacedLabel.{PlacedLabel}
use Rattle.sram_netlist.specs.Organization.{Organization, IsWritten, inputs_of, bank_rows, columns_of, banks_of}
use Rattle.sram_netlist.specs.Nets.{Net}
use Rattle.sram_netlist.specs.Instances.{LeafInstance, NandAt, DriverAt, PrechargeAt, SenseAt}
use Rattle.sram_netlist.specs.InstanceList.{logic_cells}
use Rattle.sram_netlist.specs.Names.{net_name}
use Rattle.macro_layout.specs.LayoutKit.{LayoutKit}
use Rattle.macro_layout.specs.Places.{Floorplan, bit_width, bit_height, columns_x, total_width}
use Rattle.macro_layout.specs.Floorplan.{Tracks, column_channel_y, upper_y}
use Rattle.macro_layout.specs.Pins.{IsPin, IsRailOf, choice_nets, port_nets}
use Rattle.macro_layout.specs.Channels.{IsColumnChannel, IsMainChannel, IsChannelWire, IsTrunkAt}

-- Taps and rails of bank 0

-- a pin's wire to its rail: from the rail to the pin's right end, at the pin's lower end
pub record IsPinTap (plan : Organization) (kit : LayoutKit) (floorplan : Floorplan) (leaf : LeafInstance) (net : Net) (y end : ℤ) : Type 0 where
  pub port : ℕ
  pub rect : Rect
  pub pin : IsPin plan kit floorplan leaf port 2 net rect
  pub at : y ≡ rect.y1
  pub ends : end ≡ rect.x2

-- a column choice's wire to its rail: along its trunk in the column channel, a wire's width long
pub record IsChoiceTap (plan : Organization) (kit : LayoutKit) (wire : Wire) (tracks : ℕ) (floorplan : Floorplan) (net : Net) (x y end : ℤ) : Type 0 where
  pub number : ℕ
  pub choice : slice_get (choice_nets plan.col_bits) number ≡ Some net
  pub trunk : IsTrunkAt (IsColumnChannel plan kit wire floorplan) wire tracks number y
  pub ends : end ≡ x +ℤ wire.width

-- Of each row its gate's inputs and its driver's enable; the enable of the last sense cell; the enable of the last precharge
-- cell; and the column choices. All but the last are on the third metal. (Other ports of these cells are on no rail's net.)
abbrev pub IsTapOfNet : Organization → LayoutKit → Wire → ℕ → Floorplan → Net → ℤ → ℤ → ℤ → Type 0
IsTapOfNet plan kit wire tracks floorplan net x y end =
    ((r : ℕ) × IsPinTap plan kit floorplan (NandAt 0 r) net y end)
    ⊎ (((r : ℕ) × IsPinTap plan kit floorplan (DriverAt 0 r) net y end)
    ⊎ (((i : ℕ) × (i + 1 ≡ plan.word_size) × IsPinTap plan kit floorplan (SenseAt 0 i) net y end)
    ⊎ (((c : ℕ) × (c + 1 ≡ columns_of plan) × IsPinTap plan kit floorplan (PrechargeAt 0 c) net y end)
    ⊎ IsChoiceTap plan kit wire tracks floorplan net x y end)))

-- a tap of the rail at x
pub record IsTapAt (plan : Organization) (kit : LayoutKit) (wire : Wire) (tracks : ℕ) (floorplan : Floorplan) (x y end : ℤ) : Type 0 where
  pub net : Net
  pub rail : IsRailOf plan wire floorplan 0 net x
  pub tap : IsTapOfNet plan kit wire tracks floorplan net x y end

-- the wire on the third metal from the rail to the tap's end, or the cut to the fourth
pub record IsTapWire (plan : Organization) (kit : LayoutKit) (wire : Wire) (tracks : ℕ) (floorplan : Floorplan) (s : Shape) : Type 0 where
  pub x : ℤ
  pub y : ℤ
  pub end : ℤ
  pub tap : IsTapAt plan kit wire tracks floorplan x y end
  pub drawn : IsBox (slice_index wire.metals 2) x y end (y +ℤ wire.width) s ⊎ IsVia wire 2 x y s

-- the rail on the fourth metal, from the write cells' lower edge to the upper edge of its highest tap
pub record IsRailWire (plan : Organization) (kit : LayoutKit) (wire : Wire) (tracks : ℕ) (floorplan : Floorplan) (s : Shape) : Type 0 where
  pub x : ℤ
  pub y : ℤ
  pub end : ℤ
  pub tap : IsTapAt plan kit wire tracks floorplan x y end
  pub highest : (other other_end : ℤ) → IsTapAt plan kit wire tracks floorplan x other other_end → other ≤ℤ y
  pub drawn : IsBox (slice_index wire.metals 3) x floorplan.write_y (x +ℤ wire.width) (y +ℤ wire.width) s

-- Other wires of bank 0

-- dout of a sense cell above a write cell, down to the write cells' lower edge
pub record IsOutputWire (plan : Organization) (kit : LayoutKit) (wire : Wire) (floorplan : Floorplan) (s : Shape) : Type 0 where
  pub bit : ℕ
  pub below : bit < inputs_of plan
  pub net : Net
  pub rect : Rect
  pub pin : IsPin plan kit floorplan (SenseAt 0 bit) 2 3 net rect
  pub drawn : IsBox (slice_index wire.metals 3) rect.x1 floorplan.write_y (rect.x1 +ℤ wire.width) floorplan.sense_y s

-- where the columns end
abbrev pub columns_end : Organization → LayoutKit → Floorplan → ℤ
columns_end plan kit floorplan = columns_x plan kit floorplan +ℤ pos (columns_of plan * bit_width kit)

-- along the upper rails of the write cells, where there are any
abbrev pub IsWriteJoiner : Organization → LayoutKit → Wire → Floorplan → Shape → Type 0
IsWriteJoiner plan kit wire floorplan s = IsWritten plan × IsBox (slice_index wire.metals 0) (columns_x plan kit floorplan) (floorplan.sense_y -ℤ wire.width) (columns_end plan kit floorplan) floorplan.sense_y s

-- along the upper rails of the columns' ends, and on to the rows' left end
abbrev pub IsCornerJoiner : Organization → LayoutKit → Wire → Floorplan → Shape → Type 0
IsCornerJoiner plan kit wire floorplan = IsBox (slice_index wire.metals 0) floorplan.row_x (floorplan.array_y -ℤ wire.width) (columns_end plan kit floorplan) floorplan.array_y

abbrev pub IsWireInBank : Organization → LayoutKit → Wire → Tracks → Floorplan → Shape → Type 0
IsWireInBank plan kit wire tracks floorplan s =
    IsChannelWire (IsColumnChannel plan kit wire floorplan) wire tracks.column s
    ⊎ (IsTapWire plan kit wire tracks.column floorplan s
    ⊎ (IsRailWire plan kit wire tracks.column floorplan s
    ⊎ (IsOutputWire plan kit wire floorplan s
    ⊎ (IsWriteJoiner plan kit wire floorplan s
    ⊎ IsCornerJoiner plan kit wire floorplan s))))

-- Supplies

-- the right end of the banks or of the logic row, whichever is greater, and a space
abbrev pub trunk_x : Organization → LayoutKit → Wire → Floorplan → ℤ
trunk_x plan kit wire floorplan = int_max (pos (banks_of plan) *ℤ floorplan.bank_width) (floorplan.logic_x +ℤ pos (total_width plan kit (logic_cells plan))) +ℤ wire.space

abbrev pub ground_x : Organization → LayoutKit → Wire → Floorplan → ℤ
ground_x plan kit wire floorplan = trunk_x plan kit wire floorplan +ℤ pitch wire

-- a trunk on the second metal from the macro's lower to its upper edge
abbrev pub IsSupplyTrunk : LayoutKit → Wire → Floorplan → ℤ → Shape → Type 0
IsSupplyTrunk kit wire floorplan x = IsBox (slice_index wire.metals 1) x (pos 0) (x +ℤ wire.width) (upper_y kit floorplan)

-- a bar on the first metal from (x, y) to the trunk's right edge, or the cut to the trunk
abbrev pub IsBar : Wire → ℤ → ℤ → ℤ → Shape → Type 0
IsBar wire trunk x y s = IsBox (slice_index wire.metals 0) x y (trunk +ℤ wire.width) (y +ℤ wire.width) s ⊎ IsVia wire 0 trunk y s

-- row r of the array begins at this height
abbrev pub row_y : LayoutKit → Floorplan → ℕ → ℤ
row_y kit floorplan r = floorplan.array_y +ℤ pos (r * bit_height kit)

-- Where bars begin: along each supply rail of the cells; that of the write cells where something is written. Between two rows the rails
-- coincide.
abbrev pub IsPowerBarAt : Organization → LayoutKit → Wire → Floorplan → ℤ → ℤ → Type 0
IsPowerBarAt plan kit wire floorplan x y =
    ((x ≡ floorplan.logic_x) × (y ≡ pos (kit.height Inv) -ℤ wire.width))
    ⊎ ((IsWritten plan × (x ≡ columns_x plan kit floorplan) × (y ≡ floorplan.write_y))
    ⊎ (((x ≡ columns_x plan kit floorplan) × (y ≡ column_channel_y kit floorplan -ℤ wire.width))
    ⊎ (((x ≡ columns_x plan kit floorplan) × (y ≡ floorplan.column_y))
    ⊎ (((r : ℕ) × (r < bank_rows plan) × (r % 2 ≡ 1) × (x ≡ floorplan.row_x) × (y ≡ row_y kit floorplan r))
    ⊎ ((x ≡ columns_x plan kit floorplan) × (y ≡ upper_y kit floorplan -ℤ wire.width))))))

abbrev pub IsGroundBarAt : Organization → LayoutKit → Floorplan → ℤ → ℤ → Type 0
IsGroundBarAt plan kit floorplan x y =
    ((x ≡ floorplan.logic_x) × (y ≡ pos 0))
    ⊎ (((x ≡ columns_x plan kit floorplan) × (y ≡ floorplan.sense_y))
    ⊎ (((r : ℕ) × (r < bank_rows plan) × (r % 2 ≡ 0) × (x ≡ floorplan.row_x) × (y ≡ row_y kit floorplan r))
    ⊎ ((x ≡ floorplan.row_x) × (y ≡ floorplan.precharge_y))))

abbrev pub IsPowerWire : Organization → LayoutKit → Wire → Floorplan → Shape → Type 0
IsPowerWire plan kit wire floorplan s =
    IsSupplyTrunk kit wire floorplan (trunk_x plan kit wire floorplan) s
    ⊎ ((x : ℤ) × (y : ℤ) × IsPowerBarAt plan kit wire floorplan x y × IsBar wire (trunk_x plan kit wire floorplan) x y s)

abbrev pub IsGroundWire : Organization → LayoutKit → Wire → Floorplan → Shape → Type 0
IsGroundWire plan kit wire floorplan s =
    IsSupplyTrunk kit wire floorplan (ground_x plan kit wire floorplan) s
    ⊎ ((x : ℤ) × (y : ℤ) × IsGroundBarAt plan kit floorplan x y × IsBar wire (ground_x plan kit wire floorplan) x y s)

-- the wires of the macro that aren't in its banks
abbrev pub IsWireInMacro : Organization → LayoutKit → Wire → Tracks → Floorplan → Shape → Type 0
IsWireInMacro plan kit wire tracks floorplan s =
    IsChannelWire (IsMainChannel plan kit wire floorplan) wire tracks.main s ⊎ (IsPowerWire plan kit wire floorplan s ⊎ IsGroundWire plan kit wire floorplan s)

-- Labels

-- the label is this text at this point of a metal
pub record IsTextAt (wire : Wire) (metal : ℕ) (text : List ℕ) (x y : ℤ) (label : PlacedLabel) : Type 0 where
  pub layer : label.layer ≡ slice_index wire.metals metal
  pub text_is : label.text ≡ text
  pub x_is : label.at.x ≡ x
  pub y_is : label.at.y ≡ y

-- a signal port's name, at the left end of its trunk in the main channel
pub record IsPortLabel (plan : Organization) (kit : LayoutKit) (wire : Wire) (tracks : ℕ) (floorplan : Floorplan) (label : PlacedLabel) : Type 0 where
  pub number : ℕ
  pub net : Net
  pub port : slice_get (port_nets plan) number ≡ Some net
  pub y : ℤ
  pub trunk : IsTrunkAt (IsMainChannel plan kit wire floorplan) wire tracks number y
  pub text : IsTextAt wire 2 (net_name plan net) (pos 0) y label

abbrev pub IsLabelInMacro : Organization → LayoutKit → Wire → Tracks → Floorplan → PlacedLabel → Type 0
IsLabelInMacro plan kit wire tracks floorplan label =
    IsPortLabel plan kit wire tracks.main floorplan label
    ⊎ (IsTextAt wire 1 (codes "vdd") (trunk_x plan kit wire floorplan) (pos 0) label ⊎ IsTextAt wire 1 (codes "gnd") (ground_x plan kit wire floorplan) (pos 0) label)
