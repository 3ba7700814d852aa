-- Unit cells, each by its lower left corner: which lie on a layer, and which share a side.
use Rattle.std.specs.Prelude.{◌≡◌, ◌⊎◌, ℕ, pos, ◌+ℤ◌, List}
use Rattle.or_geom.specs.declared.shape.Point.{Point}
use Rattle.or_geom.specs.declared.shape.Shape.{Shape}
use Rattle.or_geom.specs.Covered.{HasCellInSome}
use Rattle.shape_bins.specs.Layers.{rects_on}

-- the cell lies in a shape of the layer
abbrev pub LiesOn : List Shape → ℕ → Point → Type 0
LiesOn shapes layer cell = HasCellInSome (rects_on layer shapes) cell.x cell.y

-- the second cell is the next one to the right
pub record IsNextAcross (cell next : Point) : Type 0 where
  pub x : next.x ≡ cell.x +ℤ pos 1
  pub y : next.y ≡ cell.y

-- the second cell is the next one above
pub record IsNextUpward (cell next : Point) : Type 0 where
  pub x : next.x ≡ cell.x
  pub y : next.y ≡ cell.y +ℤ pos 1

-- the two cells share a side
abbrev pub ShareSide : Point → Point → Type 0
ShareSide a b = (IsNextAcross a b ⊎ IsNextAcross b a) ⊎ (IsNextUpward a b ⊎ IsNextUpward b a)
