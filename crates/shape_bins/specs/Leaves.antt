-- Leaves, and the trees that are put together over them.
use Rattle.std.specs.Prelude.{◌≡◌, ℕ, ◌+◌, ◌*◌, ◌≤◌, List, [], ◌∷◌, ◌++◌, length, slice_get, Some, Contains}
use Rattle.or_geom.specs.declared.shape.Shape.{Shape}
use Rattle.or_geom.specs.Containing.{HoldsRect}
use Rattle.shape_bins.specs.declared.node.Node.{Node}
use Rattle.shape_bins.specs.Nodes.{IsNodeOver, AreNodesFrom}

-- there is a shape of the layer at the place
pub record IsPlaceOn (shapes : List Shape) (layer place : ℕ) : Type 0 where
  pub shape : Shape
  pub there : slice_get shapes place ≡ Some shape
  pub on : shape.layer ≡ layer

-- the leaf over the shapes of the layer whose places stand between the positions
pub record IsLeafNode (shapes : List Shape) (places : List ℕ) (layer first end : ℕ) (leaf : Node) : Type 0 where
  pub single : leaf.size ≡ 1
  pub begins : leaf.first ≡ first
  pub ends : leaf.end ≡ end
  pub on : leaf.hull.layer ≡ layer
  pub over : IsNodeOver shapes places leaf

-- leaves over the places from one position up to another, each beginning where the one before ends
abbrev pub AreLeafNodes : List Shape → List ℕ → ℕ → ℕ → ℕ → List Node → Type 0
AreLeafNodes shapes places layer begin end [] = begin ≡ end
AreLeafNodes shapes places layer begin end (leaf ∷ rest) = IsLeafNode shapes places layer begin leaf.end leaf × AreLeafNodes shapes places layer leaf.end end rest

-- a node over leaves
pub record IsOverLeaves (leaves : List Node) (node : Node) : Type 0 where
  pub sized : node.size + 1 ≡ 2 * length leaves
  pub on : (shapes : List Shape) (places : List ℕ) (layer begin end : ℕ) → AreLeafNodes shapes places layer begin end leaves → node.hull.layer ≡ layer
  pub begins : (shapes : List Shape) (places : List ℕ) (layer begin end : ℕ) → AreLeafNodes shapes places layer begin end leaves → node.first ≡ begin
  pub ends : (shapes : List Shape) (places : List ℕ) (layer begin end : ℕ) → AreLeafNodes shapes places layer begin end leaves → node.end ≡ end
  pub holds : (leaf : Node) → Contains leaves leaf → HoldsRect node.hull.rect leaf.hull.rect
  pub least : (leaf : Node) → Contains leaves leaf → node.least ≤ leaf.least

-- the tree over the leaves was added
pub record IsTreeAdded (leaves old new : List Node) : Type 0 where
  pub tree : List Node
  pub is : new ≡ old ++ tree
  pub sized : length tree + 1 ≡ 2 * length leaves
  pub over : (shapes : List Shape) (places : List ℕ) (layer begin end : ℕ) → AreLeafNodes shapes places layer begin end leaves → AreNodesFrom shapes places begin end tree
