-- The unit cells of a rectangle, and when an area is covered by rectangles.
use Rattle.std.specs.Prelude.{◌⊎◌, ℤ, ◌≤ℤ◌, ◌<ℤ◌, List, [], ◌∷◌}
use Rattle.or_geom.specs.declared.shape.Rect.{Rect}

-- the unit cell with its lower left corner at (x, y) lies in the rectangle
pub record HasCell (r : Rect) (x y : ℤ) : Type 0 where
  pub left : r.x1 ≤ℤ x
  pub right : x <ℤ r.x2
  pub low : r.y1 ≤ℤ y
  pub high : y <ℤ r.y2

-- the cell lies in one of the rectangles
abbrev pub HasCellInSome : List Rect → ℤ → ℤ → Type 0
HasCellInSome [] x y = ⊥
HasCellInSome (r ∷ rs) x y = HasCell r x y ⊎ HasCellInSome rs x y

-- each unit cell of the area lies in one of the rectangles
abbrev pub IsCovered : Rect → List Rect → Type 0
IsCovered area rects = (x y : ℤ) → HasCell area x y → HasCellInSome rects x y
