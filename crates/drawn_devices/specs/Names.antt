-- The names of nets.
use Rattle.std.specs.Prelude.{◌≡◌, ℕ, List, [], Contains}
use Rattle.or_geom.specs.declared.shape.Shape.{Shape}
use Rattle.element_drawing.specs.PlainLabel.{PlainLabel}
use Rattle.tech_rules.specs.declared.tech.Tech.{Tech}
use Rattle.label_binding.specs.Binding.{Binds}
use Rattle.label_binding.specs.BoundPlaces.{label_anchor}
use Rattle.label_binding.specs.LowerCase.{in_lower_case}
use Rattle.drawn_devices.specs.Diffusion.{IsActive}

-- A label of the cell itself, on other than an active layer, binds this shape: in lower case, its name is one of the shape's
-- net.
pub record IsNamed (tech : Tech) (shapes : List Shape) (labels : List PlainLabel) (name : List ℕ) (shape : Shape) : Type 0 where
  pub label : PlainLabel
  pub listed : Contains labels label
  pub own : label.path ≡ []
  pub drawn : IsActive tech.devices label.layer → ⊥
  pub binds : Binds shapes (label_anchor label) shape
  pub is : name ≡ in_lower_case label.name
