-- Which shape a label binds.
use Rattle.std.specs.Prelude.{◌≡◌, List, Contains}
use Rattle.std.specs.declared.cmp.Ordering.TheVariants.{Less}
use Rattle.or_geom.specs.declared.shape.Shape.{Shape}
use Rattle.or_geom.specs.Joined.{IsIn}
use Rattle.or_geom.specs.ShapeOrder.{shape_order}
use Rattle.label_binding.specs.declared.anchor.Anchor.{Anchor}

-- the shape is on the label's layer, and its closed box contains the label's point
pub record IsUnder (label : Anchor) (shape : Shape) : Type 0 where
  pub on : shape.layer ≡ label.layer
  pub holds : IsIn shape.rect label.at

-- the first such shape, in the order of shapes
pub record Binds (shapes : List Shape) (label : Anchor) (shape : Shape) : Type 0 where
  pub listed : Contains shapes shape
  pub under : IsUnder label shape
  pub first : (other : Shape) → Contains shapes other → IsUnder label other → shape_order other shape ≡ Less → ⊥

abbrev pub BindsNone : List Shape → Anchor → Type 0
BindsNone shapes label = (shape : Shape) → Contains shapes shape → IsUnder label shape → ⊥
