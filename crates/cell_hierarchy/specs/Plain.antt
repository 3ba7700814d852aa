-- The flat layout as plain_label data, wherever its shapes, labels and texts lie.
use Rattle.std.specs.Prelude.{List, map}
use Rattle.std.specs.Str.{IsAscii}
use Rattle.or_geom.specs.declared.shape.Shape.{Shape}
use Rattle.element_drawing.specs.PlainLabel.{PlainLabel}
use Rattle.cell_hierarchy.specs.declared.flat.Flat.{Flat}
use Rattle.cell_hierarchy.specs.declared.flat.Label.{Label}

abbrev pub plain_label : Label → PlainLabel
plain_label label = record { path = label.path.now; name = label.name.now; layer = label.layer; at = label.at }

-- both texts of the label are ASCII
pub record IsAsciiLabel (label : PlainLabel) : Type 0 where
  pub path : IsAscii label.path
  pub name : IsAscii label.name

-- two lists, of shapes and of labels
pub record FlatLists : Type 0 where
  pub shapes : List Shape
  pub labels : List PlainLabel

abbrev pub lists_of : Flat → FlatLists
lists_of flat = record { shapes = flat.shapes.now; labels = map plain_label flat.labels.now }
