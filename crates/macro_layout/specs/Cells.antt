-- The cells of a macro as they are drawn: instances at their places in the cell, wires and labels.
use Rattle.std.specs.Prelude.{ℕ, zero, suc, ◌+◌, ◌*◌, ℤ, pos, ◌-ℤ◌, ◌*ℤ◌, List, [], ◌∷◌, ◌++◌, codes}
use Rattle.or_geom.specs.declared.shape.Shape.{Shape}
use Rattle.cell_builder.specs.declared.cell.PlacedInstance.{PlacedInstance}
use Rattle.cell_builder.specs.declared.cell.PlacedLabel.{PlacedLabel}
use Rattle.cell_builder.specs.declared.cell.DrawnCell.{DrawnCell}
use Rattle.sram_netlist.specs.Organization.{Organization, inputs_of, bank_rows, columns_of, banks_of, words_per_row}
use Rattle.sram_netlist.specs.Instances.{LogicCell, LeafInstance, BitAt, NandAt, DriverAt, PrechargeAt, WriteAt, SenseAt, MuxAt, TieAt, LogicAt}
use Rattle.sram_netlist.specs.Netlist.{role}
use Rattle.sram_netlist.specs.InstanceList.{tabulate, logic_cells}
use Rattle.sram_netlist.specs.Names.{with_number, bank_name, leaf_name}
use Rattle.sram_netlist.specs.BitCells.{BitCells, bit_cell, row_name}
use Rattle.macro_layout.specs.LayoutKit.{LayoutKit}
use Rattle.macro_layout.specs.Places.{Floorplan, upright, gate_width, drive_width, bit_width, in_row_at, columns_x}

-- The cells' names are the output name and these behind it. (Those of rows are row_name.)
abbrev pub array_cell_name : List ℕ → List ℕ
array_cell_name n = n ++ codes "_array"

abbrev pub pre_cell_name : List ℕ → List ℕ
pre_cell_name n = n ++ codes "_pre"

abbrev pub data_cell_name : List ℕ → List ℕ
data_cell_name n = n ++ codes "_data"

abbrev pub bank_cell_name : List ℕ → List ℕ
bank_cell_name n = n ++ codes "_bank"

abbrev pub logic_cell_name : List ℕ → List ℕ
logic_cell_name n = n ++ codes "_logic"

-- a leaf instance in its cell. (A cell is the same in all banks, so that the first stands for all.)
abbrev pub leaf_in_cell : Organization → LayoutKit → LeafInstance → ℤ → ℤ → PlacedInstance
leaf_in_cell plan kit leaf x y = record { name = leaf_name plan leaf; of = kit.cell (role plan leaf); place = upright x y }

-- a cell without wires and labels
abbrev pub bare_cell : List ℕ → List PlacedInstance → DrawnCell
bare_cell name instances = record { name = name; instances = instances; wires = []; labels = [] }

-- A row: its gate, its driver and the cells of its bits, side by side.
abbrev pub row_gate_at : Organization → LayoutKit → PlacedInstance
row_gate_at plan kit = leaf_in_cell plan kit (NandAt 0 0) (pos 0) (pos 0)

abbrev pub row_driver_at : Organization → LayoutKit → PlacedInstance
row_driver_at plan kit = leaf_in_cell plan kit (DriverAt 0 0) (pos (gate_width plan kit)) (pos 0)

abbrev pub row_bit_at : Organization → LayoutKit → BitCells → ℕ → ℕ → PlacedInstance
row_bit_at plan kit bits r c = record { name = leaf_name plan (BitAt 0 r c); of = bit_cell bits r c; place = upright (pos (drive_width plan kit + c * bit_width kit)) (pos 0) }

abbrev pub row_cell : Organization → LayoutKit → BitCells → List ℕ → ℕ → DrawnCell
row_cell plan kit bits n r = bare_cell (row_name bits n r) (row_gate_at plan kit ∷ row_driver_at plan kit ∷ tabulate (columns_of plan) (row_bit_at plan kit bits r))

-- The array: its rows, of which every other one is mirrored.
abbrev pub row_at : LayoutKit → BitCells → List ℕ → ℕ → PlacedInstance
row_at kit bits n r = record { name = with_number (codes "xr") r; of = row_name bits n r; place = in_row_at kit (pos 0) r (pos 0) }

abbrev pub array_cell : Organization → LayoutKit → BitCells → List ℕ → DrawnCell
array_cell plan kit bits n = bare_cell (array_cell_name n) (tabulate (bank_rows plan) (row_at kit bits n))

-- The precharge cells, one a column.
abbrev pub precharge_at : Organization → LayoutKit → ℕ → PlacedInstance
precharge_at plan kit c = leaf_in_cell plan kit (PrechargeAt 0 c) (pos (c * bit_width kit)) (pos 0)

abbrev pub pre_cell : Organization → LayoutKit → List ℕ → DrawnCell
pre_cell plan kit n = bare_cell (pre_cell_name n) (tabulate (columns_of plan) (precharge_at plan kit))

-- The data: the write and sense cells, one a slice, and the multiplexers or ties, one a column. Its lower edge is that of the
-- write cells.
abbrev pub slice_x : Organization → LayoutKit → ℕ → ℕ
slice_x plan kit i = (i * words_per_row plan) * bit_width kit

abbrev pub write_at : Organization → LayoutKit → ℕ → PlacedInstance
write_at plan kit i = leaf_in_cell plan kit (WriteAt 0 i) (pos (slice_x plan kit i)) (pos 0)

abbrev pub sense_at : Organization → LayoutKit → Floorplan → ℕ → PlacedInstance
sense_at plan kit floorplan i = leaf_in_cell plan kit (SenseAt 0 i) (pos (slice_x plan kit i)) (floorplan.sense_y -ℤ floorplan.write_y)

-- the leaf at a column's end, where there are so many column bits
abbrev pub column_leaf : ℕ → ℕ → ℕ → LeafInstance
column_leaf zero b c = TieAt b c
column_leaf (suc n) b c = MuxAt b c

abbrev pub column_at : Organization → LayoutKit → Floorplan → ℕ → PlacedInstance
column_at plan kit floorplan c = leaf_in_cell plan kit (column_leaf plan.col_bits 0 c) (pos (c * bit_width kit)) (floorplan.column_y -ℤ floorplan.write_y)

abbrev pub data_cell : Organization → LayoutKit → Floorplan → List ℕ → DrawnCell
data_cell plan kit floorplan n = bare_cell (data_cell_name n) (tabulate (inputs_of plan) (write_at plan kit)
    ++ (tabulate plan.word_size (sense_at plan kit floorplan) ++ tabulate (columns_of plan) (column_at plan kit floorplan)))

-- A bank: the array, the precharge cells and the data. Its lower edge is that of the data.
abbrev pub part_at : List ℕ → List ℕ → ℤ → ℤ → PlacedInstance
part_at name of x y = record { name = name; of = of; place = upright x y }

abbrev pub array_at : Floorplan → List ℕ → PlacedInstance
array_at floorplan n = part_at (codes "xarray") (array_cell_name n) floorplan.row_x (floorplan.array_y -ℤ floorplan.write_y)

abbrev pub pre_at : Organization → LayoutKit → Floorplan → List ℕ → PlacedInstance
pre_at plan kit floorplan n = part_at (codes "xpre") (pre_cell_name n) (columns_x plan kit floorplan) (floorplan.precharge_y -ℤ floorplan.write_y)

abbrev pub data_at : Organization → LayoutKit → Floorplan → List ℕ → PlacedInstance
data_at plan kit floorplan n = part_at (codes "xdata") (data_cell_name n) (columns_x plan kit floorplan) (pos 0)

abbrev pub bank_cell : Organization → LayoutKit → Floorplan → List ℕ → List Shape → DrawnCell
bank_cell plan kit floorplan n wires = record {
  name = bank_cell_name n;
  instances = array_at floorplan n ∷ pre_at plan kit floorplan n ∷ data_at plan kit floorplan n ∷ [];
  wires = wires;
  labels = [];
}

-- The logic row: cells side by side, from x on.
abbrev pub side_by_side : Organization → LayoutKit → ℕ → List LogicCell → List PlacedInstance
side_by_side plan kit x [] = []
side_by_side plan kit x (c ∷ cs) = leaf_in_cell plan kit (LogicAt c) (pos x) (pos 0) ∷ side_by_side plan kit (x + kit.width (role plan (LogicAt c))) cs

abbrev pub logic_row_cell : Organization → LayoutKit → List ℕ → DrawnCell
logic_row_cell plan kit n = bare_cell (logic_cell_name n) (side_by_side plan kit 0 (logic_cells plan))

-- The macro: the logic row, and the banks side by side.
abbrev pub logic_at : Floorplan → List ℕ → PlacedInstance
logic_at floorplan n = part_at (codes "xlogic") (logic_cell_name n) floorplan.logic_x (pos 0)

abbrev pub bank_at : Organization → Floorplan → List ℕ → ℕ → PlacedInstance
bank_at plan floorplan n b = part_at (bank_name plan.bank_bits b) (bank_cell_name n) (pos b *ℤ floorplan.bank_width) floorplan.write_y

abbrev pub macro_cell : Organization → Floorplan → List ℕ → List Shape → List PlacedLabel → DrawnCell
macro_cell plan floorplan n wires labels = record {
  name = n;
  instances = logic_at floorplan n ∷ tabulate (banks_of plan) (bank_at plan floorplan n);
  wires = wires;
  labels = labels;
}
