-- What the bitcell array of a memory adds: its cells, its subcircuits; and its sides.
use Rattle.std.specs.Prelude.{ℕ, ◌+◌, ◌*◌, pos, List, [], ◌∷◌, ◌++◌, codes}
use Rattle.cell_roles.specs.declared.role.Role.{Role}
use Rattle.cell_roles.specs.declared.role.Role.TheVariants.{Bitcell}
use Rattle.netlist.specs.declared.deck.Subckt.{Subckt}
use Rattle.netlist.specs.declared.deck.Deck.{Deck}
use Rattle.sram_netlist.specs.Organization.{Organization, columns_of, bank_rows}
use Rattle.sram_netlist.specs.InstanceList.{tabulate, tabulate_lists}
use Rattle.sram_netlist.specs.BitCells.{BitCells, Alike, row_kinds}
use Rattle.leaf_tables.specs.declared.kit.Kit.{Kit}
use Rattle.port_lists.specs.Cells.{cell_in}
use Rattle.sram_deck.specs.Deck.{made_subckt, row_bit, row_subckt, array_ports, array_instances, pre_ports, pre_instances}
use Rattle.cell_builder.specs.declared.cell.DrawnCell.{DrawnCell}
use Rattle.cell_builder.specs.CellList.{CellList}
use Rattle.macro_layout.specs.LayoutKit.{LayoutKit}
use Rattle.macro_layout.specs.Places.{drive_width, bit_width, bit_height, in_row_at}
use Rattle.macro_layout.specs.Cells.{row_cell, array_cell, pre_cell}
use Rattle.floorplan.specs.LayoutOfKit.{layout_kit}
use Rattle.part_edges.specs.PartPins.{PartPin, edge_pins}

-- all bits are of the bitcell; `cell` is the name of a role's cell
abbrev pub stored : (Role → List ℕ) → BitCells
stored cell = Alike (cell Bitcell)

-- The cells of the rows that are told apart: one stands for all that are alike.
abbrev pub row_cells : Organization → LayoutKit → BitCells → List ℕ → List DrawnCell
row_cells plan kit bits n = tabulate (row_kinds bits (bank_rows plan)) (row_cell plan kit bits n)

-- these, the array of rows, and the precharge cells
abbrev pub array_cells : Organization → LayoutKit → BitCells → List ℕ → List DrawnCell
array_cells plan kit bits n = row_cells plan kit bits n ++ array_cell plan kit bits n ∷ pre_cell plan kit n ∷ []

-- the subcircuits of these
abbrev pub row_subckts : Organization → (Role → List ℕ) → BitCells → List ℕ → List Subckt
row_subckts plan cell bits n = tabulate (row_kinds bits (bank_rows plan)) (row_subckt plan cell bits n)

abbrev pub array_subckts : Organization → (Role → List ℕ) → BitCells → List ℕ → List Subckt
array_subckts plan cell bits n =
    row_subckts plan cell bits n
    ++ made_subckt (n ++ codes "_array") (array_ports plan) (array_instances plan bits n)
    ∷ made_subckt (n ++ codes "_pre") (pre_ports plan) (pre_instances plan cell)
    ∷ []

-- the cells stand behind those that were there, and nothing else is changed
abbrev pub with_array_cells : Organization → LayoutKit → BitCells → List ℕ → CellList → CellList
with_array_cells plan kit bits n list = record { adopted = list.adopted; cells = list.cells ++ array_cells plan kit bits n }

-- all bits are stored
abbrev pub with_array_subckts : Organization → (Role → List ℕ) → List ℕ → Deck → Deck
with_array_subckts plan cell n deck = record { subckts = deck.subckts ++ array_subckts plan cell (stored cell) n; used = deck.used }

-- a row's gate, its driver and its columns side by side, and the rows on each other
abbrev pub array_width : Organization → LayoutKit → ℕ
array_width plan kit = drive_width plan kit + columns_of plan * bit_width kit

abbrev pub array_height : Organization → LayoutKit → ℕ
array_height plan kit = bank_rows plan * bit_height kit

-- the pins at the sides of the bitcell in row r and column c, in the array's coordinates
abbrev pub bit_pins : Kit → Organization → ℕ → ℕ → List PartPin
bit_pins kit plan r c = edge_pins kit.leaves Bitcell (row_bit (stored (cell_in kit.tech.roles)) r c).nodes
    (in_row_at (layout_kit kit) (pos 0) r (pos (drive_width plan (layout_kit kit) + c * bit_width (layout_kit kit))))

-- Those of all bitcells. (A row's gate and its driver have no pin at their upper or lower side; and the bit lines of a row are
-- those of the array.)
abbrev pub array_pins : Kit → Organization → List PartPin
array_pins kit plan = tabulate_lists (bank_rows plan) (λ r. tabulate_lists (columns_of plan) (bit_pins kit plan r))
