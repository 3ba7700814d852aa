-- The stated layout of a memory: leaf instances and wires by formula, and nothing of how cells are nested.
use Rattle.std.specs.Prelude.{◌≡◌, ◌⊎◌, ◌↔◌, ◌<◌, ℕ, ℤ, pos, ◌+ℤ◌, ◌-ℤ◌, ◌*ℤ◌, List, [], Contains, Some, slice_get}
use Rattle.or_geom.specs.declared.shape.Shape.{Shape}
use Rattle.gds_library.specs.declared.library.Structure.{Structure}
use Rattle.tech_rules.specs.declared.tech.Layer.{Layer}
use Rattle.tech_rules.specs.declared.tech.Wire.{Wire}
use Rattle.element_drawing.specs.PlainLabel.{PlainLabel}
use Rattle.element_drawing.specs.OwnShapes.{layer_with_numbers}
use Rattle.element_drawing.specs.OwnLabels.{text_place_of}
use Rattle.cell_hierarchy.specs.Plain.{FlatLists}
use Rattle.cell_hierarchy.specs.FlatSet.{IsFlatShape, IsFlatLabel}
use Rattle.cell_hierarchy.specs.FlatLists.{AreFlatLists}
use Rattle.cell_builder.specs.declared.cell.PlacedLabel.{PlacedLabel}
use Rattle.cell_builder.specs.declared.cell.DrawnCell.{DrawnCell}
use Rattle.cell_builder.specs.Flat.{IsShapeTaken, IsLabelTaken}
use Rattle.sram_netlist.specs.Organization.{Organization, banks_of}
use Rattle.sram_netlist.specs.BitCells.{BitCells}
use Rattle.macro_layout.specs.LayoutKit.{LayoutKit}
use Rattle.macro_layout.specs.Places.{Floorplan}
use Rattle.macro_layout.specs.Floorplan.{Tracks, IsFloorplan}
use Rattle.macro_layout.specs.Layout.{Drawing, IsOfLeaf, IsMacroOf}
use Rattle.macro_layout.specs.Wires.{IsWireInBank, IsWireInMacro, IsLabelInMacro}

-- the same shape, so much further right and up
pub record IsShifted (dx dy : ℤ) (from to : Shape) : Type 0 where
  pub layer : to.layer ≡ from.layer
  pub x1 : to.rect.x1 ≡ from.rect.x1 +ℤ dx
  pub y1 : to.rect.y1 ≡ from.rect.y1 +ℤ dy
  pub x2 : to.rect.x2 ≡ from.rect.x2 +ℤ dx
  pub y2 : to.rect.y2 ≡ from.rect.y2 +ℤ dy

-- what is drawn, on the first layer that has its layer's numbers
pub record IsOnFirstLayer (layers : List Layer) (IsDrawn : Shape → Type 0) (s : Shape) : Type 0 where
  pub wire : Shape
  pub drawn : IsDrawn wire
  pub layer : Layer
  pub on : slice_get layers wire.layer ≡ Some layer
  pub first : layer_with_numbers layers layer.number layer.datatype ≡ Some s.layer
  pub rect : s.rect ≡ wire.rect

-- what is written, on the first layer whose labels have its layer's numbers
pub record IsOnFirstTextLayer (layers : List Layer) (IsWritten : PlacedLabel → Type 0) (label : PlainLabel) : Type 0 where
  pub text : PlacedLabel
  pub written : IsWritten text
  pub layer : Layer
  pub on : slice_get layers text.layer ≡ Some layer
  pub first : text_place_of layers layer.text_number layer.texttype ≡ Some label.layer
  pub path : label.path ≡ []
  pub name : label.name ≡ text.text
  pub at : label.at ≡ text.at

-- a wire of bank 0, as much further right as the bank stands
pub record IsWireInBanks (plan : Organization) (kit : LayoutKit) (wire : Wire) (tracks : Tracks) (floorplan : Floorplan) (s : Shape) : Type 0 where
  pub bank : ℕ
  pub below : bank < banks_of plan
  pub inner : Shape
  pub is : IsWireInBank plan kit wire tracks floorplan inner
  pub shifted : IsShifted (pos bank *ℤ floorplan.bank_width) (pos 0) inner s

-- The layout: the macro's wires, those of its banks, and the shapes of each leaf instance's cell at the instance's place.
abbrev pub IsInMacro : List Layer → (List ℕ → Shape → Type 0) → Organization → LayoutKit → BitCells → Wire → Tracks → Floorplan → Shape → Type 0
IsInMacro layers Flat plan kit bits wire tracks floorplan s =
    IsOnFirstLayer layers (IsWireInMacro plan kit wire tracks floorplan) s ⊎ (IsOnFirstLayer layers (IsWireInBanks plan kit wire tracks floorplan) s ⊎ IsOfLeaf plan kit bits floorplan IsShapeTaken Flat s)

-- Its labels: the macro's, and those of each leaf instance's cell, below the instance's path.
abbrev pub IsMacroLabel : List Layer → (List ℕ → PlainLabel → Type 0) → Organization → LayoutKit → BitCells → Wire → Tracks → Floorplan → PlainLabel → Type 0
IsMacroLabel layers Flat plan kit bits wire tracks floorplan label =
    IsOnFirstTextLayer layers (IsLabelInMacro plan kit wire tracks floorplan) label ⊎ IsOfLeaf plan kit bits floorplan IsLabelTaken Flat label

-- a wire of bank 0, from the bank's lower left corner
pub record IsWireOfCell (plan : Organization) (kit : LayoutKit) (wire : Wire) (tracks : Tracks) (floorplan : Floorplan) (s : Shape) : Type 0 where
  pub inner : Shape
  pub is : IsWireInBank plan kit wire tracks floorplan inner
  pub shifted : IsShifted (pos 0) (pos 0 -ℤ floorplan.write_y) inner s

-- the floorplan is the macro's, and the lists have exactly its wires and labels
pub record IsDrawnAs (plan : Organization) (kit : LayoutKit) (wire : Wire) (tracks : Tracks) (d : Drawing) : Type 0 where
  pub floorplan : IsFloorplan plan kit wire tracks d.floorplan
  pub wires : (s : Shape) → Contains d.wires s ↔ IsWireInMacro plan kit wire tracks d.floorplan s
  pub bank_wires : (s : Shape) → Contains d.bank_wires s ↔ IsWireOfCell plan kit wire tracks d.floorplan s
  pub labels : (label : PlacedLabel) → Contains d.labels label ↔ IsLabelInMacro plan kit wire tracks d.floorplan label

-- the flat lists hold the stated layout, in which each leaf is what its cell is, flat, in the kit
pub record AreStated (layers : List Layer) (kit_structs : List Structure) (plan : Organization) (kit : LayoutKit) (bits : BitCells) (wire : Wire) (tracks : Tracks) (floorplan : Floorplan) (lists : FlatLists) : Type 0 where
  pub shapes : (s : Shape) → Contains lists.shapes s ↔ IsInMacro layers (IsFlatShape layers kit_structs) plan kit bits wire tracks floorplan s
  pub labels : (label : PlainLabel) → Contains lists.labels label ↔ IsMacroLabel layers (IsFlatLabel layers kit_structs) plan kit bits wire tracks floorplan label

-- The flat lists of a macro that is drawn as stated are the stated layout.
abbrev pub FlatListsAreStated : Type 0
FlatListsAreStated = (layers : List Layer) (kit_structs : List Structure) (cells : List DrawnCell) (structs : List Structure) (plan : Organization) (kit : LayoutKit) (n : List ℕ) (d : Drawing) (wire : Wire) (tracks : Tracks)
    → IsMacroOf layers kit_structs cells structs plan kit n d → IsDrawnAs plan kit wire tracks d → (lists : FlatLists) → AreFlatLists layers structs n lists → AreStated layers kit_structs plan kit d.bits wire tracks d.floorplan lists
