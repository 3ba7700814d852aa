-- The cells of a macro can be written.
use Rattle.std.specs.Prelude.{ℕ, ◌≤◌, List, [], ◌∷◌, ◌++◌, length, IsTrue}
use Rattle.std.specs.List.{AllByRecursion}
use Rattle.gds_library.specs.Writable.{IsText}
use Rattle.cell_builder.specs.declared.cell.DrawnCell.{DrawnCell}
use Rattle.cell_builder.specs.Writable.{IsWritableWire, IsWritableText, IsWritableDrawn}
use Rattle.sram_netlist.specs.Organization.{Organization, IsBuildable, bank_rows}
use Rattle.sram_netlist.specs.InstanceList.{tabulate}
use Rattle.sram_netlist.specs.BitCells.{bit_cell, row_kinds}
use Rattle.sram_plan.specs.Config.{is_output_name}
use Rattle.macro_layout.specs.LayoutKit.{LayoutKit}
use Rattle.macro_layout.specs.Cells.{row_cell, array_cell, pre_cell, data_cell, bank_cell, logic_row_cell, macro_cell}
use Rattle.macro_layout.specs.Layout.{Drawing}
use Rattle.macro_bounds.specs.Floorplans.{IsSmallKit, IsFloorplanWithin}

-- 1 to 24 printable characters
pub record IsShortName (n : List ℕ) : Type 0 where
  pub text : IsText n
  pub few : length n ≤ 24

-- An output name that a configuration may give is short.
abbrev pub OutputNamesAreShort : Type 0
OutputNamesAreShort = (n : List ℕ) → IsTrue (is_output_name n) → IsShortName n

-- the drawing's floorplan is near, and the names of the cells that hold its bits, its wires and its labels can be written
pub record IsWritableDrawing (d : Drawing) : Type 0 where
  pub bits : (r c : ℕ) → IsText (bit_cell d.bits r c)
  pub floorplan : IsFloorplanWithin d.floorplan
  pub bank_wires : AllByRecursion IsWritableWire d.bank_wires
  pub wires : AllByRecursion IsWritableWire d.wires
  pub labels : AllByRecursion IsWritableText d.labels

-- the cells of a macro: those behind its rows
abbrev pub other_cells : Organization → LayoutKit → List ℕ → Drawing → List DrawnCell
other_cells plan kit n d =
    array_cell plan kit d.bits n ∷ pre_cell plan kit n ∷ data_cell plan kit d.floorplan n ∷ bank_cell plan kit d.floorplan n d.bank_wires
    ∷ logic_row_cell plan kit n ∷ macro_cell plan d.floorplan n d.wires d.labels ∷ []

-- and all of them, the rows first
abbrev pub macro_cells : Organization → LayoutKit → List ℕ → Drawing → List DrawnCell
macro_cells plan kit n d = tabulate (row_kinds d.bits (bank_rows plan)) (row_cell plan kit d.bits n) ++ other_cells plan kit n d

-- The cells of a macro of small leaf cells can be written.
abbrev pub MacroCellsAreWritable : Type 0
MacroCellsAreWritable = (plan : Organization) (kit : LayoutKit) (n : List ℕ) (d : Drawing) → IsBuildable plan → IsSmallKit kit → IsShortName n → IsWritableDrawing d → AllByRecursion IsWritableDrawn (macro_cells plan kit n d)
