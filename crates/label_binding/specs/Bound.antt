-- The place of the shape that a label binds.
use Rattle.std.specs.Prelude.{◌≡◌, ℕ, ◌<◌, List, slice_get, Some}
use Rattle.or_geom.specs.declared.shape.Shape.{Shape}
use Rattle.label_binding.specs.declared.anchor.Anchor.{Anchor}
use Rattle.label_binding.specs.Binding.{IsUnder}

-- the shape at this place is the first of the list that lies under the label
pub record IsBoundAt (shapes : List Shape) (label : Anchor) (place : ℕ) : Type 0 where
  pub shape : Shape
  pub there : slice_get shapes place ≡ Some shape
  pub under : IsUnder label shape
  pub before : (earlier : ℕ) (other : Shape) → earlier < place → slice_get shapes earlier ≡ Some other → IsUnder label other → ⊥
