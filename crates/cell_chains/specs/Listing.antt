-- The nodes that a top reaches: whether each has a structure, where each stands in an order, and the cells in that order.
use Rattle.std.specs.Prelude.{◌≡◌, ◌≢◌, ◌<◌, ℕ, List, length, slice_get, slice_index, slice_index_or, Option, Some, None}
use Rattle.reference_graph.specs.Reaches.{Reaches}
use Rattle.gds_library.specs.declared.library.Element.{Element}
use Rattle.gds_library.specs.declared.library.Structure.{Structure}
use Rattle.cell_chains.specs.declared.cell.Cell.{Cell}
use Rattle.cell_chains.specs.Chains.{elements_of}
use Rattle.cell_chains.specs.Hierarchy.{referred_name}
use Rattle.cell_chains.specs.Numbering.{name_at, IsNodeNamed}

-- a structure has the node's name
abbrev pub IsKnown : List (Option ℕ) → ℕ → Type 0
IsKnown firsts node = slice_index_or firsts node None ≢ None

-- all that the start reaches has a structure
abbrev pub AreKnown : List (List ℕ) → List (Option ℕ) → ℕ → Type 0
AreKnown graph firsts start = (node : ℕ) → Reaches graph start node → IsKnown firsts node

-- the least node that the start reaches and that has no structure
pub record IsLeastUnknown (graph : List (List ℕ)) (firsts : List (Option ℕ)) (start node : ℕ) : Type 0 where
  pub within : node < length graph
  pub reached : Reaches graph start node
  pub unknown : slice_index_or firsts node None ≡ None
  pub least : (other : ℕ) → other < node → Reaches graph start other → IsKnown firsts other

-- for each node of the order its place there
pub record ArePositions (order : List ℕ) (count : ℕ) (positions : List ℕ) : Type 0 where
  pub sized : length positions ≡ count
  pub each : (place : ℕ) → place < length order → slice_index positions (slice_index order place) ≡ place

-- the position of the name's node
pub record LeadsTo (names : List (List ℕ)) (positions : List ℕ) (name : List ℕ) (target : ℕ) : Type 0 where
  pub node : ℕ
  pub is : IsNodeNamed names name node
  pub stands : slice_index positions node ≡ target

-- for each element that refers to a structure the position of its name's node
pub record AreTargets (names : List (List ℕ)) (positions : List ℕ) (elements : List Element) (targets : List ℕ) : Type 0 where
  pub sized : length targets ≡ length elements
  pub each : (n : ℕ) (e : Element) (name : List ℕ) → slice_get elements n ≡ Some e → referred_name e ≡ Some name → LeadsTo names positions name (slice_index targets n)

-- the cell of the node: its first structure, its height and its targets
pub record IsListed (structs : List Structure) (names : List (List ℕ)) (firsts : List (Option ℕ)) (positions : List ℕ) (height node : ℕ) (cell : Cell) : Type 0 where
  pub first : slice_index_or firsts node None ≡ Some cell.structure
  pub high : cell.height ≡ height
  pub targets : AreTargets names positions (elements_of structs (name_at names node)) cell.targets

-- the cells of the order's nodes
pub record AreListed (structs : List Structure) (names : List (List ℕ)) (firsts : List (Option ℕ)) (order heights : List ℕ) (cells : List Cell) : Type 0 where
  pub positions : List ℕ
  pub placed : ArePositions order (length names) positions
  pub sized : length cells ≡ length order
  pub each : (k : ℕ) (cell : Cell) → slice_get cells k ≡ Some cell → IsListed structs names firsts positions (slice_index heights (slice_index order k)) (slice_index order k) cell
