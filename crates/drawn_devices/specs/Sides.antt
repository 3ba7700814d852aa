-- The sides of a box: where diffusion lies along them, and where none does.
use Rattle.std.specs.Prelude.{◌≡◌, ◌↔◌, ◌≤ℤ◌, ◌<ℤ◌, ◌+ℤ◌, ℕ, ℤ, pos, negsuc, List}
use Rattle.or_geom.specs.declared.shape.Point.{Point}
use Rattle.or_geom.specs.declared.shape.Rect.{Rect}
use Rattle.or_geom.specs.declared.shape.Shape.{Shape}
use Rattle.or_geom.specs.Covered.{HasCell}
use Rattle.tech_rules.specs.declared.tech.Tech.{Tech}
use Rattle.drawn_devices.specs.declared.drawn.Flow.{Flow}
use Rattle.drawn_devices.specs.declared.drawn.Flow.TheVariants.{Across, Upward}
use Rattle.drawn_devices.specs.declared.drawn.Side.{Side}
use Rattle.drawn_devices.specs.declared.drawn.Side.TheVariants.{Left, Right, Below, Above}
use Rattle.drawn_devices.specs.Diffusion.{IsDiffusion}

-- the coordinate is one of a cell between two coordinates
pub record IsCellBetween (low high z : ℤ) : Type 0 where
  pub from : low ≤ℤ z
  pub below : z <ℤ high

-- the unit cell lies outside the box, along this side of it
abbrev pub IsAlong : Side → Rect → Point → Type 0
IsAlong Left box cell = (cell.x +ℤ pos 1 ≡ box.x1) × IsCellBetween box.y1 box.y2 cell.y
IsAlong Right box cell = (cell.x ≡ box.x2) × IsCellBetween box.y1 box.y2 cell.y
IsAlong Below box cell = (cell.y +ℤ pos 1 ≡ box.y1) × IsCellBetween box.x1 box.x2 cell.x
IsAlong Above box cell = (cell.y ≡ box.y2) × IsCellBetween box.x1 box.x2 cell.x

-- the box has exactly the unit cells along the side
abbrev pub IsStrip : Side → Rect → Rect → Type 0
IsStrip side box strip = (cell : Point) → HasCell strip cell.x cell.y ↔ IsAlong side box cell

-- one more than the coordinate, and one less, still fit 64 bits
pub record HasRoom (z : ℤ) : Type 0 where
  pub above : negsuc 4611686018427387904 ≤ℤ z
  pub below : z ≤ℤ pos 4611686018427387904

-- the column of unit cells at x, as high as the box
pub record IsColumn (x : ℤ) (box column : Rect) : Type 0 where
  pub left : column.x1 ≡ x
  pub right : column.x2 ≡ x +ℤ pos 1
  pub low : column.y1 ≡ box.y1
  pub high : column.y2 ≡ box.y2

-- the row of unit cells at y, as wide as the box
pub record IsRow (y : ℤ) (box row : Rect) : Type 0 where
  pub left : row.x1 ≡ box.x1
  pub right : row.x2 ≡ box.x2
  pub low : row.y1 ≡ y
  pub high : row.y2 ≡ y +ℤ pos 1

-- every unit cell along the side is a diffusion cell of the layer
abbrev pub IsOpen : Tech → List Shape → ℕ → Rect → Side → Type 0
IsOpen tech shapes layer box side = (cell : Point) → IsAlong side box cell → IsDiffusion tech.devices shapes layer cell

-- none is
abbrev pub IsShut : Tech → List Shape → ℕ → Rect → Side → Type 0
IsShut tech shapes layer box side = (cell : Point) → IsAlong side box cell → IsDiffusion tech.devices shapes layer cell → ⊥

-- the side at which the flow begins, and the opposite one at which it ends
abbrev pub first_side : Flow → Side
first_side Across = Left
first_side Upward = Below

abbrev pub second_side : Flow → Side
second_side Across = Right
second_side Upward = Above

-- the other flow
abbrev pub crosswise : Flow → Flow
crosswise Across = Upward
crosswise Upward = Across

-- both ends of the flow are open, and the two other sides are shut
pub record IsPassed (tech : Tech) (shapes : List Shape) (layer : ℕ) (box : Rect) (flow : Flow) : Type 0 where
  pub first_open : IsOpen tech shapes layer box (first_side flow)
  pub second_open : IsOpen tech shapes layer box (second_side flow)
  pub first_shut : IsShut tech shapes layer box (first_side (crosswise flow))
  pub second_shut : IsShut tech shapes layer box (second_side (crosswise flow))
