-- Boxes and shapes.
use Rattle.std.specs.Prelude.{◌≡◌, ℕ, List}
use Rattle.or_geom.specs.declared.shape.Rect.{Rect}
use Rattle.or_geom.specs.declared.shape.Shape.{Shape}
use Rattle.or_geom.specs.Gathering.{SomeGives}

-- the shape is the box, on this layer
pub record IsOnLayer (layer : ℕ) (box : Rect) (shape : Shape) : Type 0 where
  pub on : shape.layer ≡ layer
  pub is : shape.rect ≡ box

-- the shape is one of the boxes, on this layer
abbrev pub IsShapeOfBox : ℕ → List Rect → Shape → Type 0
IsShapeOfBox layer boxes shape = SomeGives (IsOnLayer layer) boxes shape
