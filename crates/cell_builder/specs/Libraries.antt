-- Structures among others of a library.
use Rattle.std.specs.Prelude.{◌≡◌, ◌≢◌, ◌↔◌, ℕ, List, ◌++◌, Contains}
use Rattle.std.specs.List.{AllPairs}
use Rattle.or_geom.specs.declared.shape.Shape.{Shape}
use Rattle.gds_library.specs.declared.library.Structure.{Structure}
use Rattle.tech_rules.specs.declared.tech.Layer.{Layer}
use Rattle.element_drawing.specs.PlainLabel.{PlainLabel}
use Rattle.cell_chains.specs.Chains.{elements_of, IsMissing}
use Rattle.cell_hierarchy.specs.FlatSet.{IsFlatShape, IsFlatLabel}
use Rattle.cell_builder.specs.declared.cell.DrawnCell.{DrawnCell}
use Rattle.cell_builder.specs.Finish.{IsMade}
use Rattle.cell_builder.specs.Flat.{IsDrawn}

-- A structure of a library whose names differ is the one of its name.
abbrev pub NamesResolve : Type 0
NamesResolve = (structs : List Structure) (s : Structure) → AllPairs (λ (a b : Structure). a.name ≢ b.name) structs → Contains structs s → elements_of structs s.name ≡ s.elements

-- all that the top reaches is among the structures
abbrev pub IsComplete : List Structure → List ℕ → Type 0
IsComplete structs top = (name : List ℕ) → IsMissing structs top name → ⊥

-- what is flat stays so where structures follow
pub record IsKept (layers : List Layer) (structs more : List Structure) (top : List ℕ) : Type 0 where
  pub shapes : (s : Shape) → IsFlatShape layers (structs ++ more) top s ↔ IsFlatShape layers structs top s
  pub labels : (label : PlainLabel) → IsFlatLabel layers (structs ++ more) top label ↔ IsFlatLabel layers structs top label

-- A structure whose library is whole is, flat, the same where other structures follow.
abbrev pub LeavesAreKept : Type 0
LeavesAreKept = (layers : List Layer) (structs more : List Structure) (top : List ℕ) → IsComplete structs top → IsKept layers structs more top

-- a cell of a finished library whose names differ is drawn
abbrev pub FinishedCellsAreDrawn : Type 0
FinishedCellsAreDrawn = (layers : List Layer) (adopted : List Structure) (cells : List DrawnCell) (structs : List Structure) → IsMade layers adopted cells structs → AllPairs (λ (a b : Structure). a.name ≢ b.name) structs
    → (cell : DrawnCell) → Contains cells cell → IsDrawn layers structs cell
