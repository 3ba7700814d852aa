-- What a pin's shape is wanted to be.
use Rattle.std.specs.Prelude.{◌≡◌, ℕ, List}
use Rattle.or_geom.specs.declared.shape.Shape.{Shape}
use Rattle.leaf_shapes.specs.declared.candidate.WantedShape.{WantedShape}
use Rattle.leaf_shapes.specs.declared.candidate.WantedShape.TheVariants.{Any, OnLayer, Fitting}
use Rattle.element_drawing.specs.PlainLabel.{PlainLabel}
use Rattle.label_binding.specs.Binding.{Binds}
use Rattle.label_binding.specs.BoundPlaces.{label_anchor}
use Rattle.leaf_shapes.specs.Candidates.{IsLabelOfPin}
use Rattle.leaf_shapes.specs.Fits.{FitsCell}

abbrev pub IsWanted : WantedShape → Shape → Type 0
IsWanted Any shape = Unit {0}
IsWanted (OnLayer layer) shape = shape.layer ≡ layer
IsWanted (Fitting layer fit size wire) shape = (shape.layer ≡ layer) × FitsCell fit wire size shape.rect

-- the label is one of the pin's and binds the shape, which is as wanted
pub record GivesShape (wanted : WantedShape) (shapes : List Shape) (pin : List ℕ) (label : PlainLabel) (shape : Shape) : Type 0 where
  pub of : IsLabelOfPin pin label
  pub binds : Binds shapes (label_anchor label) shape
  pub is : IsWanted wanted shape

abbrev pub GivesNone : WantedShape → List Shape → List ℕ → PlainLabel → Type 0
GivesNone wanted shapes pin label = (shape : Shape) → GivesShape wanted shapes pin label shape → ⊥
