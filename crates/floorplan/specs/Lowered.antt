-- What is drawn of a bank from its own lower edge.
use Rattle.std.specs.Prelude.{ℤ, pos, ◌-ℤ◌}
use Rattle.or_geom.specs.declared.shape.Shape.{Shape}
use Rattle.macro_layout.specs.Stated.{IsShifted}

-- a shape that is drawn, so much further down
pub record IsLowered (by : ℤ) (IsDrawn : Shape → Type 0) (s : Shape) : Type 0 where
  pub inner : Shape
  pub is : IsDrawn inner
  pub shifted : IsShifted (pos 0) (pos 0 -ℤ by) inner s
