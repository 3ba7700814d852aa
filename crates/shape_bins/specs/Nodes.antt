-- Trees over shapes, as lists of nodes.
use Rattle.std.specs.Prelude.{◌≡◌, ℕ, zero, suc, ◌+◌, ◌-◌, ◌≤◌, List, [], ◌∷◌, length, slice_get, Some}
use Rattle.or_geom.specs.declared.shape.Shape.{Shape}
use Rattle.or_geom.specs.Containing.{HoldsRect}
use Rattle.shape_bins.specs.declared.node.Node.{Node}
use Rattle.shape_bins.specs.declared.query.Query.{Query}
use Rattle.shape_bins.specs.Places.{AllBetween, AllAtLeast}
use Rattle.shape_bins.specs.Query.{FitsQuery}

-- the shape at the place is of the hull's layer and lies in it
pub record IsInHull (shapes : List Shape) (hull : Shape) (place : ℕ) : Type 0 where
  pub shape : Shape
  pub there : slice_get shapes place ≡ Some shape
  pub on : shape.layer ≡ hull.layer
  pub holds : HoldsRect hull.rect shape.rect

-- The shapes whose places stand between the node's positions lie in its hull, and none of these places is less than `least`. This lower bound is all that is needed to pass over the node in a search for the least place.
pub record IsNodeOver (shapes : List Shape) (places : List ℕ) (node : Node) : Type 0 where
  pub rises : node.first ≤ node.end
  pub within : node.end ≤ length places
  pub held : AllBetween (IsInHull shapes node.hull) places node.first node.end
  pub least : AllAtLeast node.least places node.first node.end

-- where the places of the node at this index begin; where all end, if there is none
abbrev pub position_at : ℕ → List Node → ℕ → ℕ
position_at end [] k = end
position_at end (node ∷ rest) zero = node.first
position_at end (node ∷ rest) (suc k) = position_at end rest k

-- A node and the nodes after it, of which those below it come first. The node behind these begins where this one ends. Where any are below it, the first of them begins where this one does.
pub record IsNodeBefore (shapes : List Shape) (places : List ℕ) (end : ℕ) (node : Node) (rest : List Node) : Type 0 where
  pub counted : 1 ≤ node.size
  pub there : node.size ≤ length rest + 1
  pub over : IsNodeOver shapes places node
  pub behind : position_at end rest (node.size - 1) ≡ node.end
  pub inner : (node.size ≡ 1 → ⊥) → position_at end rest 0 ≡ node.first

-- so stands each node of the list before the rest of it
abbrev pub AreNodes : List Shape → List ℕ → ℕ → List Node → Type 0
AreNodes shapes places end [] = Unit {0}
AreNodes shapes places end (node ∷ rest) = IsNodeBefore shapes places end node rest × AreNodes shapes places end rest

-- nodes over the places from one position up to another
pub record AreNodesFrom (shapes : List Shape) (places : List ℕ) (begin end : ℕ) (nodes : List Node) : Type 0 where
  pub begins : position_at end nodes 0 ≡ begin
  pub each : AreNodes shapes places end nodes

-- the node is of the layer, and its hull is one that is looked for
pub record IsNodeNear (layer : ℕ) (query : Query) (node : Node) : Type 0 where
  pub on : node.hull.layer ≡ layer
  pub fits : FitsQuery query node.hull.rect
