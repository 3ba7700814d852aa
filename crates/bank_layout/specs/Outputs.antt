-- The wires of a bank's outputs, from the bank's lower edge.
use Rattle.std.specs.Prelude.{◌<◌, ℕ, ◌*◌, ℤ, pos, ◌+ℤ◌, ◌-ℤ◌, List, slice_index}
use Rattle.or_geom.specs.declared.shape.Shape.{Shape}
use Rattle.or_geom.specs.Adds.{Adds}
use Rattle.cell_roles.specs.declared.role.Role.TheVariants.{Sense}
use Rattle.sram_netlist.specs.Organization.{Organization, inputs_of, words_per_row}
use Rattle.leaf_shapes.specs.declared.pins.LeafPin.{LeafPin}
use Rattle.leaf_tables.specs.declared.kit.Leaf.{Leaf}
use Rattle.macro_layout.specs.LayoutKit.{LayoutKit}
use Rattle.macro_layout.specs.Places.{Floorplan, columns_x, bit_width}
use Rattle.bank_layout.specs.BankTaps.{IsInCell, IsLeafPin}
use Rattle.tech_rules.specs.declared.tech.Wire.{Wire}
use Rattle.wire_drawing.specs.Drawing.{IsBox}

-- where the output of a bit begins: the first at x, and each so many columns behind the one before, which are so wide
abbrev pub output_x : ℤ → ℕ → ℕ → ℕ → ℤ
output_x x words width bit = x +ℤ pos ((bit * words) * width)

-- its wire, on the fourth metal from the lower edge up
abbrev pub IsOutputAt : Wire → ℤ → ℤ → Shape → Type 0
IsOutputAt wire x top = IsBox (slice_index wire.metals 3) x (pos 0) (x +ℤ wire.width) top

-- the wire of one of so many bits
abbrev pub IsOutputBelow : Wire → ℤ → ℕ → ℕ → ℤ → ℕ → Shape → Type 0
IsOutputBelow wire x words width top count s = (bit : ℕ) × (bit < count) × IsOutputAt wire (output_x x words width bit) top s

-- The list grew by the wires of a bank's outputs, one above each write cell: at the left end of its sense cell's pin, up to the sense
-- cells.
pub record AddsOutputs (leaves : List Leaf) (plan : Organization) (kit : LayoutKit) (wire : Wire) (floorplan : Floorplan) (old new : List Shape) : Type 0 where
  pub pin : LeafPin
  pub is : IsLeafPin leaves Sense 2 pin
  pub inside : IsInCell pin.rect
  pub adds : Adds old new (IsOutputBelow wire (columns_x plan kit floorplan +ℤ pin.rect.x1) (words_per_row plan) (bit_width kit) (floorplan.sense_y -ℤ floorplan.write_y) (inputs_of plan))
