-- The library of a list of drawn cells.
use Rattle.std.specs.Prelude.{◌≡◌, ℕ, List, [], ◌∷◌, ◌++◌}
use Rattle.std.specs.List.Sorted.{IsSorted, IsPermutation}
use Rattle.or_geom.specs.ShapeOrder.{shape_order}
use Rattle.gds_library.specs.declared.library.Structure.{Structure}
use Rattle.gds_library.specs.declared.library.Library.{Library}
use Rattle.tech_rules.specs.declared.tech.Layer.{Layer}
use Rattle.cell_builder.specs.declared.cell.DrawnCell.{DrawnCell}
use Rattle.cell_builder.specs.CellList.{CellList}
use Rattle.cell_builder.specs.LabelOrder.{text_order}
use Rattle.cell_builder.specs.Structures.{structure_of}

-- the same cell with its wires in the order of shapes and its labels in the order of their texts
pub record IsInOrder (cell sorted : DrawnCell) : Type 0 where
  pub name : sorted.name ≡ cell.name
  pub instances : sorted.instances ≡ cell.instances
  pub wires_rise : IsSorted shape_order sorted.wires
  pub wires_same : IsPermutation cell.wires sorted.wires
  pub labels_rise : IsSorted text_order sorted.labels
  pub labels_same : IsPermutation cell.labels sorted.labels

-- the structure of the cell in order
pub record IsFinishedCell (layers : List Layer) (cell : DrawnCell) (s : Structure) : Type 0 where
  pub sorted : DrawnCell
  pub order : IsInOrder cell sorted
  pub is : s ≡ structure_of layers sorted

-- one structure for each cell, in order
abbrev pub AreFinished : List Layer → List DrawnCell → List Structure → Type 0
AreFinished layers [] structs = structs ≡ []
AreFinished layers (cell ∷ cells) [] = ⊥
AreFinished layers (cell ∷ cells) (s ∷ structs) = IsFinishedCell layers cell s × AreFinished layers cells structs

-- the adopted structures, and those of the cells
pub record IsMade (layers : List Layer) (adopted : List Structure) (cells : List DrawnCell) (structs : List Structure) : Type 0 where
  pub made : List Structure
  pub each : AreFinished layers cells made
  pub parts : structs ≡ adopted ++ made

-- the library that is finished from the list
pub record IsLibraryOf (layers : List Layer) (list : CellList) (name : List ℕ) (lib : Library) : Type 0 where
  pub named : lib.name ≡ name
  pub structs : IsMade layers list.adopted list.cells lib.structs
