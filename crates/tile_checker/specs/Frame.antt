-- The boxes that are tried round a rectangle, to see whether it has a width.
use Rattle.std.specs.Prelude.{◌≡◌, ℤ, ◌≤ℤ◌, ◌<ℤ◌, ◌+ℤ◌, ◌-ℤ◌, List}
use Rattle.std.specs.Int.{int_max}
use Rattle.or_geom.specs.declared.shape.Point.{Point}
use Rattle.or_geom.specs.declared.shape.Rect.{Rect}
use Rattle.or_geom.specs.Covered.{HasCellInSome}
use Rattle.tile_checker.specs.declared.frame.Frame.{Frame}

-- The boxes with the least sides that contain r and meet the minimum: their lower left corners lie between low and high.
pub record IsFrame (min : ℤ) (r : Rect) (f : Frame) : Type 0 where
  pub width : f.width ≡ int_max min (r.x2 -ℤ r.x1)
  pub height : f.height ≡ int_max min (r.y2 -ℤ r.y1)
  pub low_x : f.low.x +ℤ f.width ≡ r.x2
  pub low_y : f.low.y +ℤ f.height ≡ r.y2
  pub high_x : f.high.x ≡ r.x1
  pub high_y : f.high.y ≡ r.y1

abbrev pub point : ℤ → ℤ → Point
point x y = record { x = x; y = y }

-- all cells of the box with this lower left corner and these sides lie in some rectangle
abbrev pub CoversFrom : List Rect → Point → ℤ → ℤ → Type 0
CoversFrom rects corner width height = (x y : ℤ) → corner.x ≤ℤ x → x <ℤ (corner.x +ℤ width) → corner.y ≤ℤ y → y <ℤ (corner.y +ℤ height) → HasCellInSome rects x y

-- a box of the frame with this corner is covered
pub record HasBoxAt (rects : List Rect) (f : Frame) (corner : Point) : Type 0 where
  pub left : f.low.x ≤ℤ corner.x
  pub right : corner.x ≤ℤ f.high.x
  pub low : f.low.y ≤ℤ corner.y
  pub high : corner.y ≤ℤ f.high.y
  pub covered : CoversFrom rects corner f.width f.height
