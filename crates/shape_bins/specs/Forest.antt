-- Trees over all shapes.
use Rattle.std.specs.Prelude.{◌≡◌, ℕ, ◌≤◌, ◌<◌, ◌⊎◌, List, length, slice_get, get_or, Some, Contains}
use Rattle.or_geom.specs.declared.shape.Shape.{Shape}
use Rattle.shape_bins.specs.declared.forest.Forest.{Forest}
use Rattle.shape_bins.specs.declared.forest.IndexedShape.{IndexedShape}
use Rattle.shape_bins.specs.declared.forest.NodeRange.{NodeRange}
use Rattle.shape_bins.specs.declared.node.Node.{Node}
use Rattle.shape_bins.specs.Leaves.{IsPlaceOn}
use Rattle.shape_bins.specs.Nodes.{AreNodesFrom, position_at}

-- The nodes over the layer's shapes stand in the range, so none outside it is of the layer: where the shape at a listed place is of the layer, the place stands between those of the first node in the range and those of the first node behind it. All places are `count`.
pub record IsRangeOf (shapes : List Shape) (count : ℕ) (places : List ℕ) (nodes : List Node) (layer : ℕ) (range : NodeRange) : Type 0 where
  pub rises : range.first ≤ range.end
  pub within : range.end ≤ length nodes
  pub holds : (at place : ℕ) → slice_get places at ≡ Some place → IsPlaceOn shapes layer place → (position_at count nodes range.first ≤ at) × (at < position_at count nodes range.end)

-- no nodes at all
abbrev pub no_range : NodeRange
no_range = record { first = 0; end = 0 }

-- a list of the places of the first `count` shapes, in some order, trees over the whole list, and a range for each layer; none where the list of them ends
pub record AreTreesTo (shapes : List Shape) (count : ℕ) (places : List ℕ) (nodes : List Node) (ranges : List NodeRange) : Type 0 where
  pub sized : length places ≡ count
  pub all : (place : ℕ) → place < count → Contains places place
  pub trees : AreNodesFrom shapes places 0 count nodes
  pub ranged : (layer : ℕ) → IsRangeOf shapes count places nodes layer (get_or ranges layer no_range)

-- such a list of all shapes, and trees over it
abbrev pub IsForest : Forest → Type 0
IsForest forest = AreTreesTo forest.shapes.now (length forest.shapes.now) forest.places.now forest.nodes.now forest.ranges.now

-- the range and a tree behind it
pub record IsJoinedRange (old tree new : NodeRange) : Type 0 where
  pub begins : (new.first ≡ old.first) ⊎ ((old.first ≡ old.end) × (new.first ≡ tree.first))
  pub ends : new.end ≡ tree.end

-- the tree was joined to the range of its layer, and the other layers' ranges are as before
pub record IsRangeAdded (layer : ℕ) (tree : NodeRange) (old new : List NodeRange) : Type 0 where
  pub joined : IsJoinedRange (get_or old layer no_range) tree (get_or new layer no_range)
  pub kept : (other : ℕ) → (other ≡ layer → ⊥) → get_or new other no_range ≡ get_or old other no_range

-- from one place up to another, shapes of the layer stand
pub record IsRun (shapes : List Shape) (layer begin end : ℕ) : Type 0 where
  pub longer : begin < end
  pub within : end ≤ length shapes
  pub on : (place : ℕ) → begin ≤ place → place < end → IsPlaceOn shapes layer place

-- the place that stands at the position, and its shape, which is of the layer
pub record IsListedAt (shapes : List Shape) (places : List ℕ) (layer at : ℕ) (placed : IndexedShape) : Type 0 where
  pub listed : slice_get places at ≡ Some placed.place
  pub there : slice_get shapes placed.place ≡ Some placed.shape
  pub on : placed.shape.layer ≡ layer
