-- The layout of a memory, and that a finished library has it.
use Rattle.std.specs.Prelude.{◌≢◌, ◌≡◌, ◌⊎◌, ◌↔◌, ◌<◌, ℕ, pos, ◌+ℤ◌, ◌*ℤ◌, List, Contains, Some, slice_get}
use Rattle.std.specs.List.{AllPairs}
use Rattle.or_geom.specs.declared.shape.Shape.{Shape}
use Rattle.or_geom.specs.declared.place.Place.{Place}
use Rattle.gds_library.specs.declared.library.Structure.{Structure}
use Rattle.tech_rules.specs.declared.tech.Layer.{Layer}
use Rattle.element_drawing.specs.PlainLabel.{PlainLabel}
use Rattle.element_drawing.specs.OwnShapes.{layer_with_numbers}
use Rattle.element_drawing.specs.Paths.{IsRectOf}
use Rattle.cell_chains.specs.Instances.{Item}
use Rattle.cell_hierarchy.specs.Plain.{FlatLists}
use Rattle.cell_hierarchy.specs.FlatSet.{IsFlatShape, IsFlatLabel}
use Rattle.cell_hierarchy.specs.FlatLists.{AreFlatLists}
use Rattle.cell_builder.specs.declared.cell.PlacedLabel.{PlacedLabel}
use Rattle.cell_builder.specs.declared.cell.DrawnCell.{DrawnCell}
use Rattle.cell_builder.specs.Finish.{IsMade}
use Rattle.cell_builder.specs.Flat.{IsShapeTaken, IsLabelTaken, IsDrawn, IsOwnWire, IsOwnLabel, HasLayers}
use Rattle.cell_builder.specs.Libraries.{IsComplete}
use Rattle.sram_netlist.specs.Organization.{Organization, IsBuildable, bank_rows, banks_of}
use Rattle.sram_netlist.specs.Instances.{LeafInstance}
use Rattle.sram_netlist.specs.Membership.{HasLeafInstance}
use Rattle.sram_netlist.specs.BitCells.{BitCells, row_kinds}
use Rattle.macro_layout.specs.LayoutKit.{LayoutKit}
use Rattle.macro_layout.specs.Places.{Floorplan, IsPlaceOf, leaf_cell, leaf_item}
use Rattle.macro_layout.specs.Cells.{row_cell, array_cell, pre_cell, data_cell, bank_cell, logic_row_cell, macro_cell}

-- which cells hold the bits, where the cells stand, the wires of each bank from the bank's lower left corner, and the macro's wires and
-- labels
pub record Drawing : Type 0 where
  pub bits : BitCells
  pub floorplan : Floorplan
  pub bank_wires : List Shape
  pub wires : List Shape
  pub labels : List PlacedLabel

-- a wire of bank b as it stands in the macro, on the first layer that has its layer's numbers
pub record IsBankWire (layers : List Layer) (floorplan : Floorplan) (b : ℕ) (wires : List Shape) (s : Shape) : Type 0 where
  pub wire : Shape
  pub among : Contains wires wire
  pub layer : Layer
  pub on : slice_get layers wire.layer ≡ Some layer
  pub first : layer_with_numbers layers layer.number layer.datatype ≡ Some s.layer
  pub box : IsRectOf (wire.rect.x1 +ℤ (pos b *ℤ floorplan.bank_width)) (wire.rect.y1 +ℤ floorplan.write_y) (wire.rect.x2 +ℤ (pos b *ℤ floorplan.bank_width)) (wire.rect.y2 +ℤ floorplan.write_y) s.rect

-- a wire of one of the banks
pub record IsWireOfBanks (layers : List Layer) (plan : Organization) (d : Drawing) (s : Shape) : Type 0 where
  pub bank : ℕ
  pub below : bank < banks_of plan
  pub wire : IsBankWire layers d.floorplan bank d.bank_wires s

-- one of the leaf instances, at its place, takes x over from what is flat in its cell
pub record IsOfLeaf {X : Type 0} (plan : Organization) (kit : LayoutKit) (bits : BitCells) (floorplan : Floorplan) (Takes : Item → (X → Type 0) → X → Type 0) (Flat : List ℕ → X → Type 0) (x : X) : Type 0 where
  pub leaf : LeafInstance
  pub has : HasLeafInstance plan leaf
  pub place : Place
  pub stands : IsPlaceOf plan kit floorplan leaf place
  pub taken : Takes (leaf_item plan kit bits leaf place) (Flat (leaf_cell plan kit bits leaf)) x

-- The layout: the macro's wires, the wires of each bank, and the shapes of each leaf instance's cell at the instance's place.
abbrev pub InLayout : List Layer → (List ℕ → Shape → Type 0) → Organization → LayoutKit → Drawing → Shape → Type 0
InLayout layers Flat plan kit d s = IsOwnWire layers d.wires s ⊎ (IsWireOfBanks layers plan d s ⊎ IsOfLeaf plan kit d.bits d.floorplan IsShapeTaken Flat s)

-- Its labels: the macro's, and those of each leaf instance's cell, below the instance's path.
abbrev pub IsLayoutLabel : List Layer → (List ℕ → PlainLabel → Type 0) → Organization → LayoutKit → Drawing → PlainLabel → Type 0
IsLayoutLabel layers Flat plan kit d label = IsOwnLabel layers d.labels label ⊎ IsOfLeaf plan kit d.bits d.floorplan IsLabelTaken Flat label

-- the library draws the macro's cells, those of its rows and six more, for the output name n
pub record DrawsMacro (layers : List Layer) (structs : List Structure) (plan : Organization) (kit : LayoutKit) (n : List ℕ) (d : Drawing) : Type 0 where
  pub buildable : IsBuildable plan
  pub row : (r : ℕ) → r < row_kinds d.bits (bank_rows plan) → IsDrawn layers structs (row_cell plan kit d.bits n r)
  pub array : IsDrawn layers structs (array_cell plan kit d.bits n)
  pub pre : IsDrawn layers structs (pre_cell plan kit n)
  pub data_ : IsDrawn layers structs (data_cell plan kit d.floorplan n)
  pub bank : IsDrawn layers structs (bank_cell plan kit d.floorplan n d.bank_wires)
  pub bank_on : HasLayers layers (bank_cell plan kit d.floorplan n d.bank_wires)
  pub logic : IsDrawn layers structs (logic_row_cell plan kit n)
  pub macro : IsDrawn layers structs (macro_cell plan d.floorplan n d.wires d.labels)
  pub macro_on : HasLayers layers (macro_cell plan d.floorplan n d.wires d.labels)

-- The flat set of a macro is its layout.
pub record IsLayoutFlat (layers : List Layer) (structs : List Structure) (plan : Organization) (kit : LayoutKit) (n : List ℕ) (d : Drawing) : Type 0 where
  pub shapes : (s : Shape) → IsFlatShape layers structs n s ↔ InLayout layers (IsFlatShape layers structs) plan kit d s
  pub labels : (label : PlainLabel) → IsFlatLabel layers structs n label ↔ IsLayoutLabel layers (IsFlatLabel layers structs) plan kit d label

abbrev pub MacrosAreFlat : Type 0
MacrosAreFlat = (layers : List Layer) (structs : List Structure) (plan : Organization) (kit : LayoutKit) (n : List ℕ) (d : Drawing) → DrawsMacro layers structs plan kit n d → IsLayoutFlat layers structs plan kit n d

-- the macro's cells are among the cells
pub record HasCells (cells : List DrawnCell) (plan : Organization) (kit : LayoutKit) (n : List ℕ) (d : Drawing) : Type 0 where
  pub row : (r : ℕ) → r < row_kinds d.bits (bank_rows plan) → Contains cells (row_cell plan kit d.bits n r)
  pub array : Contains cells (array_cell plan kit d.bits n)
  pub pre : Contains cells (pre_cell plan kit n)
  pub data_ : Contains cells (data_cell plan kit d.floorplan n)
  pub bank : Contains cells (bank_cell plan kit d.floorplan n d.bank_wires)
  pub logic : Contains cells (logic_row_cell plan kit n)
  pub macro : Contains cells (macro_cell plan d.floorplan n d.wires d.labels)

-- the structures are those of a kit, and those that are finished from the macro's cells
pub record IsMacroOf (layers : List Layer) (kit_structs : List Structure) (cells : List DrawnCell) (structs : List Structure) (plan : Organization) (kit : LayoutKit) (n : List ℕ) (d : Drawing) : Type 0 where
  pub buildable : IsBuildable plan
  pub made : IsMade layers kit_structs cells structs
  pub differ : AllPairs (λ (a b : Structure). a.name ≢ b.name) structs
  pub has : HasCells cells plan kit n d
  pub bank_on : HasLayers layers (bank_cell plan kit d.floorplan n d.bank_wires)
  pub macro_on : HasLayers layers (macro_cell plan d.floorplan n d.wires d.labels)
  pub complete : (leaf : LeafInstance) → HasLeafInstance plan leaf → IsComplete kit_structs (leaf_cell plan kit d.bits leaf)

-- The flat lists hold the layout, in which each leaf is what its cell is, flat, in the kit.
pub record AreLayout (layers : List Layer) (kit_structs : List Structure) (plan : Organization) (kit : LayoutKit) (d : Drawing) (lists : FlatLists) : Type 0 where
  pub shapes : (s : Shape) → Contains lists.shapes s ↔ InLayout layers (IsFlatShape layers kit_structs) plan kit d s
  pub labels : (label : PlainLabel) → Contains lists.labels label ↔ IsLayoutLabel layers (IsFlatLabel layers kit_structs) plan kit d label

-- The flat lists of a finished macro are its layout.
abbrev pub FlatListsAreLayout : Type 0
FlatListsAreLayout = (layers : List Layer) (kit_structs : List Structure) (cells : List DrawnCell) (structs : List Structure) (plan : Organization) (kit : LayoutKit) (n : List ℕ) (d : Drawing)
    → IsMacroOf layers kit_structs cells structs plan kit n d → (lists : FlatLists) → AreFlatLists layers structs n lists → AreLayout layers kit_structs plan kit d lists
