-- The outline of a cell.
use Rattle.std.specs.Prelude.{◌≡◌, ◌⊎◌, ℕ, pos, ◌≤ℤ◌, List, Contains}
use Rattle.or_geom.specs.declared.shape.Rect.{Rect}
use Rattle.or_geom.specs.declared.shape.Shape.{Shape}
use Rattle.or_geom.specs.Containing.{HoldsRect}
use Rattle.wire_drawing.specs.Drawing.{IsBox}
use Rattle.tech_rules.specs.declared.tech.Wire.{Wire}
use Rattle.leaf_shapes.specs.declared.fit.CellSize.{CellSize}

-- a shape on the layer
pub record IsOn (layer : ℕ) (shapes : List Shape) (shape : Shape) : Type 0 where
  pub listed : Contains shapes shape
  pub on : shape.layer ≡ layer

-- no shape is on the layer
abbrev pub IsEmptyLayer : ℕ → List Shape → Type 0
IsEmptyLayer layer shapes = (shape : Shape) → IsOn layer shapes shape → ⊥

-- all shapes on the layer are this one
abbrev pub AreAll : ℕ → List Shape → Shape → Type 0
AreAll layer shapes one = (shape : Shape) → IsOn layer shapes shape → shape ≡ one

-- the one shape on the layer
pub record IsAlone (layer : ℕ) (shapes : List Shape) (shape : Shape) : Type 0 where
  pub there : IsOn layer shapes shape
  pub only : AreAll layer shapes shape

-- the layer of a metal or of a cut between metals
abbrev pub IsWireLayer : Wire → ℕ → Type 0
IsWireLayer wire layer = Contains wire.metals layer ⊎ Contains wire.cuts layer

-- each shape on a metal or a cut lies inside
abbrev pub LieInside : Wire → Rect → List Shape → Type 0
LieInside wire outer shapes = (shape : Shape) → Contains shapes shape → IsWireLayer wire shape.layer → HoldsRect outer shape.rect

-- The one shape on the layer of outlines goes from the origin to the size, no side is above 65,536, and each shape on a
-- metal or a cut lies inside it.
pub record IsCellOutline (wire : Wire) (outline : ℕ) (shapes : List Shape) (size : CellSize) : Type 0 where
  pub shape : Shape
  pub alone : IsAlone outline shapes shape
  pub is : IsBox outline (pos 0) (pos 0) size.width size.height shape
  pub narrow : size.width ≤ℤ pos 65536
  pub low : size.height ≤ℤ pos 65536
  pub inside : LieInside wire shape.rect shapes
