-- Which shapes the labels of a pin bind.
use Rattle.std.specs.Prelude.{◌≡◌, ℕ, ◌<◌, List, [], slice_get, Some}
use Rattle.or_geom.specs.declared.shape.Shape.{Shape}
use Rattle.element_drawing.specs.PlainLabel.{PlainLabel}
use Rattle.label_binding.specs.Binding.{Binds}
use Rattle.label_binding.specs.BoundPlaces.{label_anchor}
use Rattle.label_binding.specs.LowerCase.{in_lower_case}

-- The label has the pin's name, without regard to case, and stands in the cell itself: the path of a label of a structure
-- to which the cell refers isn't empty.
pub record IsLabelOfPin (pin : List ℕ) (label : PlainLabel) : Type 0 where
  pub own : label.path ≡ []
  pub named : in_lower_case label.name ≡ in_lower_case pin

-- the label at this place is one of the pin's and binds the shape
pub record BindsPinAt (shapes : List Shape) (labels : List PlainLabel) (pin : List ℕ) (place : ℕ) (shape : Shape) : Type 0 where
  pub label : PlainLabel
  pub there : slice_get labels place ≡ Some label
  pub of : IsLabelOfPin pin label
  pub binds : Binds shapes (label_anchor label) shape

-- one of the shapes that the pin's labels bind has P
pub record HasCandidate (P : Shape → Type 0) (shapes : List Shape) (labels : List PlainLabel) (pin : List ℕ) : Type 0 where
  pub place : ℕ
  pub shape : Shape
  pub bound : BindsPinAt shapes labels pin place shape
  pub has : P shape

-- none of them has
abbrev pub NoCandidate : (Shape → Type 0) → List Shape → List PlainLabel → List ℕ → Type 0
NoCandidate P shapes labels pin = HasCandidate P shapes labels pin → ⊥

-- the first of them, in order of labels, that has
pub record IsFirstCandidate (P : Shape → Type 0) (shapes : List Shape) (labels : List PlainLabel) (pin : List ℕ) (shape : Shape) : Type 0 where
  pub place : ℕ
  pub bound : BindsPinAt shapes labels pin place shape
  pub has : P shape
  pub first : (earlier : ℕ) (other : Shape) → earlier < place → BindsPinAt shapes labels pin earlier other → P other → ⊥
