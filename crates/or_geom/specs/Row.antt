-- Rows of cells of an area, and how far up they are covered.
use Rattle.std.specs.Prelude.{◌≡◌, ℤ, ◌≤ℤ◌, ◌<ℤ◌, List}
use Rattle.or_geom.specs.declared.shape.Point.{Point}
use Rattle.or_geom.specs.declared.shape.Rect.{Rect}
use Rattle.or_geom.specs.Covered.{HasCell, HasCellInSome, IsCovered}

-- one of the rectangles, which holds the cell
pub record IsFound (rects : List Rect) (cell : Point) (r : Rect) : Type 0 where
  pub holds : HasCell r cell.x cell.y
  pub covered : IsCovered r rects

-- the leftmost cell of a row of the area
pub record IsRowOf (area : Rect) (row : Point) : Type 0 where
  pub left : row.x ≡ area.x1
  pub low : area.y1 ≤ℤ row.y
  pub high : row.y <ℤ area.y2

-- the rows from one up to the next are covered
pub record AreRowsTo (rects : List Rect) (area : Rect) (row next : Point) : Type 0 where
  pub left : next.x ≡ area.x1
  pub higher : row.y <ℤ next.y
  pub within : next.y ≤ℤ area.y2
  pub covered : (x y : ℤ) → HasCell area x y → row.y ≤ℤ y → y <ℤ next.y → HasCellInSome rects x y
