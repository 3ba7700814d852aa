-- The places of the shapes that the labels of a list bind.
use Rattle.std.specs.Prelude.{◌≡◌, ℕ, List, Option, Some, length, slice_get, MatchOption}
use Rattle.or_geom.specs.declared.shape.Shape.{Shape}
use Rattle.element_drawing.specs.PlainLabel.{PlainLabel}
use Rattle.cell_hierarchy.specs.declared.flat.Label.{Label}
use Rattle.cell_hierarchy.specs.Plain.{plain_label}
use Rattle.label_binding.specs.declared.anchor.Anchor.{Anchor}
use Rattle.label_binding.specs.Binding.{BindsNone}
use Rattle.label_binding.specs.Bound.{IsBoundAt}

-- where the label stands
abbrev pub label_anchor : PlainLabel → Anchor
label_anchor label = record { layer = label.layer; at = label.at }

-- what the label binds: the shape at the place that was found, or none
abbrev pub IsFoundUnder : List Shape → Label → Option ℕ → Type 0
IsFoundUnder shapes label found = MatchOption found (BindsNone shapes (label_anchor (plain_label label))) (IsBoundAt shapes (label_anchor (plain_label label)))

-- for each label, in order, what it binds
pub record AreBoundPlaces (shapes : List Shape) (labels : List Label) (places : List (Option ℕ)) : Type 0 where
  pub sized : length places ≡ length labels
  pub each : (index : ℕ) (label : Label) (found : Option ℕ) → slice_get labels index ≡ Some label → slice_get places index ≡ Some found → IsFoundUnder shapes label found
