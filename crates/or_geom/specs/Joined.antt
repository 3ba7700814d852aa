-- Which points lie in a closed rectangle, and when two rectangles are joined.
use Rattle.std.specs.Prelude.{◌≢◌, ◌≤ℤ◌}
use Rattle.or_geom.specs.declared.shape.Point.{Point}
use Rattle.or_geom.specs.declared.shape.Rect.{Rect}

-- the point lies in the rectangle or on its edge
pub record IsIn (r : Rect) (p : Point) : Type 0 where
  pub left : r.x1 ≤ℤ p.x
  pub right : p.x ≤ℤ r.x2
  pub low : r.y1 ≤ℤ p.y
  pub high : p.y ≤ℤ r.y2

-- The closed rectangles have two different points in common. (Corners are whole numbers, so whole points are enough.)
pub record AreJoined (a b : Rect) : Type 0 where
  pub p : Point
  pub q : Point
  pub differ : p ≢ q
  pub p_in_a : IsIn a p
  pub p_in_b : IsIn b p
  pub q_in_a : IsIn a q
  pub q_in_b : IsIn b q
