-- When rectangles meet or overlap.
use Rattle.std.specs.Prelude.{◌≤ℤ◌, ◌<ℤ◌}
use Rattle.or_geom.specs.declared.shape.Rect.{Rect}

-- the closed rectangles have a point in common
pub record Meet (a b : Rect) : Type 0 where
  pub left : a.x1 ≤ℤ b.x2
  pub right : b.x1 ≤ℤ a.x2
  pub low : a.y1 ≤ℤ b.y2
  pub high : b.y1 ≤ℤ a.y2

-- the rectangles share area
pub record Overlap (a b : Rect) : Type 0 where
  pub left : a.x1 <ℤ b.x2
  pub right : b.x1 <ℤ a.x2
  pub low : a.y1 <ℤ b.y2
  pub high : b.y1 <ℤ a.y2
