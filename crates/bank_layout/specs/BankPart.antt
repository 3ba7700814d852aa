-- What a bank adds: its cells and its subcircuits; its pins; and why it can't be built. Lengths are nanometres from its lower left
-- corner, which is the macro's left end at the lower edge of the data.
use Rattle.std.specs.Prelude.{◌≡◌, ◌⊎◌, ℕ, ◌==◌, ℤ, pos, ◌+ℤ◌, ◌-ℤ◌, List, [], ◌∷◌, ◌++◌, cond, map, Contains, Some, slice_index_or, codes}
use Rattle.std.specs.Int.{int_max}
use Rattle.std.specs.List.Sorted.{IsStrictlySortedBy}
use Rattle.or_geom.specs.declared.shape.Shape.{Shape}
use Rattle.or_geom.specs.ShapeOrder.{shape_order}
use Rattle.cell_roles.specs.declared.role.Role.{Role}
use Rattle.cell_roles.specs.declared.role.Role.TheVariants.{Precharge, Sense}
use Rattle.wire_drawing.specs.declared.route.Tap.{Tap}
use Rattle.tech_rules.specs.declared.tech.Wire.{Wire}
use Rattle.channel_router.specs.declared.channel.Routed.{Routed}
use Rattle.netlist.specs.declared.deck.Deck.{Deck}
use Rattle.netlist.specs.declared.deck.Subckt.{Subckt}
use Rattle.cell_builder.specs.CellList.{CellList, with_drawn}
use Rattle.sram_netlist.specs.Organization.{Organization, inputs_of, columns_of, words_per_row}
use Rattle.sram_netlist.specs.InstanceList.{tabulate}
use Rattle.sram_netlist.specs.Names.{with_number}
use Rattle.sram_deck.specs.Deck.{made_subckt, pre_instances, bank_ports, bank_instances}
use Rattle.leaf_shapes.specs.declared.pins.LeafPin.{LeafPin}
use Rattle.leaf_tables.specs.declared.kit.Kit.{Kit}
use Rattle.leaf_tables.specs.declared.part.Edges.{Edges}
use Rattle.leaf_tables.specs.declared.part.PartFault.{PartFault}
use Rattle.port_lists.specs.Cells.{cell_in}
use Rattle.macro_layout.specs.LayoutKit.{LayoutKit}
use Rattle.macro_layout.specs.Places.{Floorplan, columns_x, bit_width}
use Rattle.macro_layout.specs.Floorplan.{IsFloorplan, rail_count, rail_x, upper_y}
use Rattle.macro_layout.specs.Cells.{pre_cell, data_cell, bank_cell}
use Rattle.floorplan.specs.LayoutOfKit.{layout_kit}
use Rattle.part_edges.specs.Additions.{with_subckt}
use Rattle.part_edges.specs.PartPins.{PartPin, part_pins, AreEdgesOf}
use Rattle.bitcell_array.specs.ArrayPart.{stored, with_array_cells, with_array_subckts, array_pins}
use Rattle.port_data.specs.Column.{AreWideSlices, IsColumnOf}
use Rattle.port_data.specs.DataPart.{data_part_subckt, data_pins, IsDataRefused}
use Rattle.bank_layout.specs.Near.{IsDrawableWire}
use Rattle.bank_layout.specs.BankTaps.{IsLeafPin, AreBankTaps, AreTapsApart, AreTapsRefused}
use Rattle.bank_layout.specs.Outputs.{output_x}
use Rattle.bank_layout.specs.StatedWires.{AreWiresOfCell}

-- The cells and the subcircuits of the array, of the precharge and of the data, and the bank's, stand behind those that were there,
-- and nothing else is changed.
abbrev pub with_bank_cells : Organization → LayoutKit → Floorplan → List ℕ → List Shape → CellList → CellList
with_bank_cells plan kit floorplan n wires list = with_drawn (bank_cell plan kit floorplan n wires) (with_drawn (data_cell plan kit floorplan n) (with_array_cells plan kit (stored kit.cell) n list))

abbrev pub bank_part_subckt : Organization → List ℕ → Subckt
bank_part_subckt plan n = made_subckt (n ++ codes "_bank") (bank_ports plan) (bank_instances plan n)

abbrev pub with_bank_subckts : Organization → (Role → List ℕ) → List ℕ → Deck → Deck
with_bank_subckts plan cell n deck = with_subckt (bank_part_subckt plan n) (with_subckt (data_part_subckt plan cell n) (with_array_subckts plan cell n deck))

-- Pins

-- a pin of a part, as the part stands so far right and up
abbrev pub pin_moved : ℤ → ℤ → PartPin → PartPin
pin_moved dx dy pin = record { net = pin.net; left = pin.left +ℤ dx; low = pin.low +ℤ dy; high = pin.high +ℤ dy }

-- the highest of the rail's taps, of which none is below the bank
abbrev pub highest_tap : List Tap → ℕ → ℤ
highest_tap [] rail = pos 0
highest_tap (t ∷ ts) rail = cond (t.rail == rail) (int_max t.y (highest_tap ts rail)) (highest_tap ts rail)

-- A rail: it is on the bank's port of its number, and goes from the lower side to the upper edge of its highest tap.
abbrev pub rail_pin : Organization → Wire → List Tap → ℕ → PartPin
rail_pin plan wire taps rail = record { net = slice_index_or (bank_ports plan) rail []; left = rail_x wire rail; low = pos 0; high = highest_tap taps rail +ℤ wire.width }

-- The wire of an output, where its sense cell has this pin: it begins with the pin, and goes up to the sense cells.
abbrev pub output_pin : Organization → LayoutKit → Floorplan → LeafPin → ℕ → PartPin
output_pin plan kit floorplan pin i = record {
  net = with_number (codes "o") i;
  left = output_x (columns_x plan kit floorplan +ℤ pin.rect.x1) (words_per_row plan) (bit_width kit) i;
  low = pos 0;
  high = floorplan.sense_y -ℤ floorplan.write_y;
}

-- the pins of the precharge cells, from the lower left corner of the first
abbrev pub pre_pins : Kit → Organization → List ℕ → List PartPin
pre_pins kit plan n = part_pins kit.leaves (tabulate (columns_of plan) (λ c. Precharge)) (pre_instances plan (cell_in kit.tech.roles)) (pre_cell plan (layout_kit kit) n).instances

-- The pins of a bank: its rails, its outputs' wires, and the pins of the leaf cells of its data, its precharge and its array, as these
-- stand in the bank. Nets inside these have the names that they have there.
pub record AreBankPins (kit : Kit) (plan : Organization) (wire : Wire) (floorplan : Floorplan) (track : List ℕ) (n : List ℕ) (pins : List PartPin) : Type 0 where
  pub taps : List Tap
  pub of_taps : AreBankTaps kit.leaves plan (layout_kit kit) wire floorplan track taps
  pub sense : LeafPin
  pub is_sense : IsLeafPin kit.leaves Sense 2 sense
  pub are : pins ≡ tabulate (rail_count plan) (rail_pin plan wire taps)
      ++ (tabulate (inputs_of plan) (output_pin plan (layout_kit kit) floorplan sense)
      ++ (map (pin_moved (columns_x plan (layout_kit kit) floorplan) (pos 0)) (data_pins kit plan floorplan n)
      ++ (map (pin_moved (columns_x plan (layout_kit kit) floorplan) (floorplan.precharge_y -ℤ floorplan.write_y)) (pre_pins kit plan n)
      ++ map (pin_moved floorplan.row_x (floorplan.array_y -ℤ floorplan.write_y)) (array_pins kit plan))))

-- The cells were added with exactly the stated wires, each once and in order, which fit 32 bits. The edges are those of the pins. The bank ends where its
-- columns do, and at the upper end of the precharge cells.
pub record IsBankDrawn (kit : Kit) (plan : Organization) (wire : Wire) (n : List ℕ) (routed : Routed) (floorplan : Floorplan) (old new : CellList) (edges : Edges) : Type 0 where
  pub wires : List Shape
  pub rises : IsStrictlySortedBy shape_order wires
  pub cells : new ≡ with_bank_cells plan (layout_kit kit) floorplan n wires old
  pub stated : AreWiresOfCell plan (layout_kit kit) wire routed.tracks floorplan wires
  pub near : (s : Shape) → Contains wires s → IsDrawableWire wire s
  pub pins : List PartPin
  pub pins_are : AreBankPins kit plan wire floorplan routed.track n pins
  pub edges_are : AreEdgesOf pins edges
  pub width : edges.width ≡ floorplan.bank_width
  pub height : edges.height ≡ upper_y (layout_kit kit) floorplan -ℤ floorplan.write_y

-- So on the floorplan of a macro whose column channel is routed so, and whose main channel, of which a bank knows nothing, has no
-- tracks. No slice is too narrow, and no pins of the column channel and no taps are too close.
pub record IsBankBuilt (kit : Kit) (plan : Organization) (n : List ℕ) (old new : CellList) (edges : Edges) : Type 0 where
  pub wire : Wire
  pub wired : kit.tech.wire ≡ Some wire
  pub wide : AreWideSlices plan (layout_kit kit)
  pub routed : Routed
  pub column : IsColumnOf kit plan routed
  pub floorplan : Floorplan
  pub stands : IsFloorplan plan (layout_kit kit) wire (record { main = 0; column = routed.tracks }) floorplan
  pub drawn : IsBankDrawn kit plan wire n routed floorplan old new edges
  pub apart : AreTapsApart kit.leaves plan (layout_kit kit) wire floorplan routed.track

-- a slice is too narrow, or else pins of the column channel are too close, or else, where it is routed, taps of the bank
abbrev pub IsBankPartRefused : Kit → Organization → PartFault → Type 0
IsBankPartRefused kit plan fault =
    IsDataRefused kit plan fault
    ⊎ (AreWideSlices plan (layout_kit kit) × ((column : Routed) × IsColumnOf kit plan column × ((wire : Wire) × (kit.tech.wire ≡ Some wire) × AreTapsRefused kit plan wire column fault)))
