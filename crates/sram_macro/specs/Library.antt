-- The cells of a macro, of which its library is made.
use Rattle.std.specs.Prelude.{ℕ, ◌<◌, List, [], ◌∷◌, ◌++◌, length}
use Rattle.std.specs.List.{AllByRecursion}
use Rattle.or_geom.specs.declared.shape.Shape.{Shape}
use Rattle.gds_library.specs.Writable.{IsText}
use Rattle.tech_rules.specs.declared.tech.Layer.{Layer}
use Rattle.cell_builder.specs.declared.cell.PlacedLabel.{PlacedLabel}
use Rattle.cell_builder.specs.declared.cell.DrawnCell.{DrawnCell}
use Rattle.cell_builder.specs.CellList.{CellList}
use Rattle.sram_netlist.specs.Organization.{Organization, bank_rows}
use Rattle.sram_netlist.specs.BitCells.{BitCells, bit_cell, row_kinds}
use Rattle.sram_netlist.specs.InstanceList.{tabulate}
use Rattle.leaf_tables.specs.declared.kit.Kit.{Kit}
use Rattle.floorplan.specs.LayoutOfKit.{layout_kit}
use Rattle.macro_layout.specs.Places.{Floorplan}
use Rattle.macro_layout.specs.Cells.{row_cell, array_cell, pre_cell, data_cell}
use Rattle.macro_layout.specs.Layout.{Drawing}
use Rattle.macro_bounds.specs.Writable.{macro_cells}
use Rattle.floorplan.specs.declared.numbers.FloorplanNumbers.{FloorplanNumbers}
use Rattle.floorplan.specs.FloorplanNumbers.{floorplan_of}
use Rattle.sram_macro.specs.declared.library.Wires.{Wires}

-- the cells that a bank is made of
abbrev pub part_cells : Kit → Organization → BitCells → List ℕ → Floorplan → List DrawnCell
part_cells kit plan bits n floorplan =
    tabulate (row_kinds bits (bank_rows plan)) (row_cell plan (layout_kit kit) bits n)
    ++ array_cell plan (layout_kit kit) bits n
    ∷ pre_cell plan (layout_kit kit) n
    ∷ data_cell plan (layout_kit kit) floorplan n
    ∷ []

-- the structures of the leaf cells, and the macro's cells: those of its rows, and six more
abbrev pub macro_list : Kit → Organization → List ℕ → Drawing → CellList
macro_list kit plan n d = record {
  adopted = kit.lib.structs;
  cells = macro_cells plan (layout_kit kit) n d;
}

abbrev pub drawing_with : BitCells → FloorplanNumbers → Wires → Drawing
drawing_with bits floorplan wires = record { bits = bits; floorplan = floorplan_of floorplan; bank_wires = wires.bank.items; wires = wires.top.items; labels = wires.labels.items }

-- the names of the cells that hold the bits can be written
abbrev pub HaveTexts : BitCells → Type 0
HaveTexts bits = (r c : ℕ) → IsText (bit_cell bits r c)

-- the layers of all wires and labels are there
pub record AreOnLayers (layers : List Layer) (wires : Wires) : Type 0 where
  pub bank : AllByRecursion (λ (s : Shape). s.layer < length layers) wires.bank.items
  pub top : AllByRecursion (λ (s : Shape). s.layer < length layers) wires.top.items
  pub labels : AllByRecursion (λ (l : PlacedLabel). l.layer < length layers) wires.labels.items
