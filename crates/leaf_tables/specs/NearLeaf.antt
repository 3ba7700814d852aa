-- How far leaf cells and their pins reach.
use Rattle.std.specs.Prelude.{◌≡◌, ℕ, ℤ, pos, ◌≤ℤ◌, List, slice_get, Some}
use Rattle.or_geom.specs.Distance.{IsReachable}
use Rattle.leaf_shapes.specs.declared.pins.LeafPin.{LeafPin}
use Rattle.leaf_tables.specs.declared.kit.Leaf.{Leaf}

-- a length in a leaf cell: a side of it, or 0
pub record IsLeafLength (z : ℤ) : Type 0 where
  pub above : pos 0 ≤ℤ z
  pub below : z ≤ℤ pos 65536

abbrev pub ArePinsReachable : List LeafPin → Type 0
ArePinsReachable pins = (k : ℕ) (pin : LeafPin) → slice_get pins k ≡ Some pin → IsReachable pin.rect

-- the width and the height are such, and pins lie near
pub record IsNearLeaf (leaf : Leaf) : Type 0 where
  pub width : IsLeafLength leaf.width
  pub height : IsLeafLength leaf.height
  pub pins : ArePinsReachable leaf.pins
