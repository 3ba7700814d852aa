-- The structures that a top reaches, from the bottom up, with their references resolved; and why there may be no such list.
use Rattle.std.specs.Prelude.{◌≡◌, ◌<◌, ◌≤◌, ℕ, suc, List, length, slice_index, slice_get, Option, Some, None}
use Rattle.or_geom.specs.Least.{IsLeast}
use Rattle.gds_library.specs.declared.library.Element.{Element}
use Rattle.gds_library.specs.declared.library.Element.TheVariants.{Boundary, Path, Sref, Aref, Text}
use Rattle.gds_library.specs.declared.library.Structure.{Structure}
use Rattle.cell_chains.specs.declared.cell.Cell.{Cell}
use Rattle.cell_chains.specs.declared.fault.ChainFault.{ChainFault}
use Rattle.cell_chains.specs.declared.fault.ChainFault.TheVariants as chain_fault
use Rattle.cell_chains.specs.Chains.{elements_of, IsMissing, IsCyclic, IsDepth}

-- the name of the structure to which an element refers
abbrev pub referred_name : Element → Option (List ℕ)
referred_name (Boundary layer datatype points props) = None
referred_name (Path layer datatype kind width points props) = None
referred_name (Sref name place props) = Some name
referred_name (Aref name place columns rows across down props) = Some name
referred_name (Text layer texttype at string props) = None

-- the cell at this place of the list has the name, stands before k, and has a smaller height
pub record IsTarget (structs : List Structure) (cells : List Cell) (k height target : ℕ) (name : List ℕ) : Type 0 where
  pub before : target < k
  pub cell : Cell
  pub is : slice_get cells target ≡ Some cell
  pub structure : Structure
  pub stands : slice_get structs cell.structure ≡ Some structure
  pub named : structure.name ≡ name
  pub lower : cell.height < height

-- The cell at place k: its structure is the first of its name, its height is at most 32, and `targets` has for each element
-- that refers to a structure the place of that structure's cell. For other elements it has any number.
pub record IsCell (structs : List Structure) (cells : List Cell) (k : ℕ) (cell : Cell) : Type 0 where
  pub structure : Structure
  pub stands : slice_get structs cell.structure ≡ Some structure
  pub first : elements_of structs structure.name ≡ structure.elements
  pub low : cell.height ≤ 32
  pub sized : length cell.targets ≡ length structure.elements
  pub each : (n : ℕ) (e : Element) (name : List ℕ) → slice_get structure.elements n ≡ Some e → referred_name e ≡ Some name
      → IsTarget structs cells k cell.height (slice_index cell.targets n) name

-- the cell at this place is that of the structure of the name
pub record IsCellOf (structs : List Structure) (cells : List Cell) (k : ℕ) (name : List ℕ) : Type 0 where
  pub cell : Cell
  pub is : slice_get cells k ≡ Some cell
  pub structure : Structure
  pub stands : slice_get structs cell.structure ≡ Some structure
  pub named : structure.name ≡ name

-- cells from the bottom up, of which the last is the top's
pub record AreCells (structs : List Structure) (top : List ℕ) (cells : List Cell) : Type 0 where
  pub all : (k : ℕ) (cell : Cell) → slice_get cells k ≡ Some cell → IsCell structs cells k cell
  pub before : ℕ
  pub count : length cells ≡ suc before
  pub last : IsCellOf structs cells before top

-- why there is no such list: the first of these that holds
abbrev pub IsChainFault : List Structure → List ℕ → ChainFault → Type 0
IsChainFault structs top (chain_fault.UnknownStruct name) = IsLeast (IsMissing structs top) name
IsChainFault structs top (chain_fault.Cycle name) = ((other : List ℕ) → IsMissing structs top other → ⊥) × IsLeast (IsCyclic structs top) name
IsChainFault structs top (chain_fault.TooDeep depth) =
    ((other : List ℕ) → IsMissing structs top other → ⊥) × ((other : List ℕ) → IsCyclic structs top other → ⊥) × IsDepth structs top depth × (32 < depth)
IsChainFault structs top chain_fault.Memory = Unit {0}
