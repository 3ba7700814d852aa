-- What is added to a cell.
use Rattle.std.specs.Prelude.{ℕ, List, [], ◌∷◌, ◌++◌}
use Rattle.or_geom.specs.declared.shape.Point.{Point}
use Rattle.or_geom.specs.declared.place.Place.{Place}
use Rattle.or_geom.specs.declared.shape.Shape.{Shape}
use Rattle.cell_builder.specs.declared.cell.PlacedInstance.{PlacedInstance}
use Rattle.cell_builder.specs.declared.cell.PlacedLabel.{PlacedLabel}
use Rattle.cell_builder.specs.declared.cell.DrawnCell.{DrawnCell}

abbrev pub instance_at : List ℕ → List ℕ → Place → PlacedInstance
instance_at name of place = record { name = name; of = of; place = place }

abbrev pub label_at : ℕ → Point → List ℕ → PlacedLabel
label_at layer at text = record { layer = layer; at = at; text = text }

abbrev pub add_instance : PlacedInstance → DrawnCell → DrawnCell
add_instance i cell = record { name = cell.name; instances = cell.instances ++ i ∷ []; wires = cell.wires; labels = cell.labels }

abbrev pub add_wire : Shape → DrawnCell → DrawnCell
add_wire s cell = record { name = cell.name; instances = cell.instances; wires = cell.wires ++ s ∷ []; labels = cell.labels }

abbrev pub add_label : PlacedLabel → DrawnCell → DrawnCell
add_label l cell = record { name = cell.name; instances = cell.instances; wires = cell.wires; labels = cell.labels ++ l ∷ [] }
