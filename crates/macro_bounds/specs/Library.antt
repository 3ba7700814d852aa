-- The library of a macro: it can be written, and is the macro's.
use Rattle.std.specs.Prelude.{◌≡◌, ◌≢◌, ◌<◌, List, ℕ, length}
use Rattle.std.specs.List.{AllByRecursion, AllPairs}
use Rattle.or_geom.specs.declared.shape.Shape.{Shape}
use Rattle.gds_library.specs.declared.library.Structure.{Structure}
use Rattle.gds_library.specs.declared.library.Library.{Library}
use Rattle.gds_library.specs.Writable.{IsWritableCell, IsWritable}
use Rattle.tech_rules.specs.declared.tech.Layer.{Layer}
use Rattle.cell_builder.specs.declared.cell.PlacedLabel.{PlacedLabel}
use Rattle.cell_builder.specs.CellList.{CellList}
use Rattle.cell_builder.specs.Finish.{IsLibraryOf}
use Rattle.cell_builder.specs.Flat.{HasLayers}
use Rattle.cell_builder.specs.Libraries.{IsComplete}
use Rattle.sram_netlist.specs.Organization.{Organization, IsBuildable}
use Rattle.sram_netlist.specs.Instances.{LeafInstance}
use Rattle.sram_netlist.specs.Membership.{HasLeafInstance}
use Rattle.macro_layout.specs.LayoutKit.{LayoutKit}
use Rattle.macro_layout.specs.Places.{leaf_cell}
use Rattle.macro_layout.specs.Layout.{Drawing, IsMacroOf}
use Rattle.macro_bounds.specs.Floorplans.{IsSmallKit}
use Rattle.macro_bounds.specs.Writable.{IsShortName, IsWritableDrawing, macro_cells}
use Rattle.macro_bounds.specs.Differ.{AreFree, macro_names}

-- the layers of a drawing's wires and labels are there
pub record IsOnLayers (layers : List Layer) (d : Drawing) : Type 0 where
  pub bank_wires : AllByRecursion (λ (s : Shape). s.layer < length layers) d.bank_wires
  pub wires : AllByRecursion (λ (s : Shape). s.layer < length layers) d.wires
  pub labels : AllByRecursion (λ (l : PlacedLabel). l.layer < length layers) d.labels

-- structures that can be written and whose names differ from each other and from the names of a macro's cells
pub record AreFreeStructures (structs : List Structure) (names : List (List ℕ)) : Type 0 where
  pub writable : AllByRecursion IsWritableCell structs
  pub differ : AllPairs (λ (a b : Structure). a.name ≢ b.name) structs
  pub free : AreFree structs names

-- All cells of a macro are on layers that are there.
abbrev pub MacroCellsHaveLayers : Type 0
MacroCellsHaveLayers = (layers : List Layer) (plan : Organization) (kit : LayoutKit) (n : List ℕ) (d : Drawing) → IsOnLayers layers d → AllByRecursion (HasLayers layers) (macro_cells plan kit n d)

-- A macro's library over free structures can be written.
abbrev pub MacroLibrariesAreWritable : Type 0
MacroLibrariesAreWritable = (layers : List Layer) (list : CellList) (lib : Library) (plan : Organization) (kit : LayoutKit) (n : List ℕ) (d : Drawing) → IsLibraryOf layers list n lib → list.cells ≡ macro_cells plan kit n d
    → AreFreeStructures list.adopted (macro_names plan d.bits n) → IsBuildable plan → IsSmallKit kit → IsShortName n → IsWritableDrawing d → IsWritable lib

-- It is the macro's, where the leaf cells are complete.
abbrev pub MacroLibrariesAreMacros : Type 0
MacroLibrariesAreMacros = (layers : List Layer) (list : CellList) (lib : Library) (plan : Organization) (kit : LayoutKit) (n : List ℕ) (d : Drawing) → IsLibraryOf layers list n lib → list.cells ≡ macro_cells plan kit n d
    → AreFreeStructures list.adopted (macro_names plan d.bits n) → IsBuildable plan → IsOnLayers layers d → ((leaf : LeafInstance) → HasLeafInstance plan leaf → IsComplete list.adopted (leaf_cell plan kit d.bits leaf)) → IsMacroOf layers list.adopted list.cells lib.structs plan kit n d
