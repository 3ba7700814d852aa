-- The structure of a drawn cell: a reference for each instance, a boundary for each wire, a text for each label.
use Rattle.std.specs.Prelude.{ℕ, pos, List, [], ◌∷◌, ◌++◌, map, Option, Some, None, slice_get}
use Rattle.or_geom.specs.declared.shape.Point.{Point}
use Rattle.or_geom.specs.declared.shape.Rect.{Rect}
use Rattle.or_geom.specs.declared.shape.Shape.{Shape}
use Rattle.gds_library.specs.declared.library.Element.{Element}
use Rattle.gds_library.specs.declared.library.Element.TheVariants.{Boundary, Sref, Text}
use Rattle.gds_library.specs.declared.library.Structure.{Structure}
use Rattle.tech_rules.specs.declared.tech.Layer.{Layer}
use Rattle.cell_builder.specs.declared.cell.PlacedInstance.{PlacedInstance}
use Rattle.cell_builder.specs.declared.cell.PlacedLabel.{PlacedLabel}
use Rattle.cell_builder.specs.declared.cell.DrawnCell.{DrawnCell}

-- the corners of a rectangle, counter-clockwise from the lower left one
abbrev pub ring : Rect → List Point
ring r = record { x = r.x1; y = r.y1 } ∷ record { x = r.x2; y = r.y1 } ∷ record { x = r.x2; y = r.y2 } ∷ record { x = r.x1; y = r.y2 } ∷ []

-- an instance, whose name is its property 1
abbrev pub instance_element : PlacedInstance → Element
instance_element i = Sref i.of i.place (record { attr = pos 1; value = i.name } ∷ [])

-- (No wire of a cell is on a layer that isn't there.)
abbrev pub boundary_on : Option Layer → List Point → Element
boundary_on None corners = Boundary (pos 0) (pos 0) corners []
boundary_on (Some layer) corners = Boundary layer.number layer.datatype corners []

abbrev pub wire_element : List Layer → Shape → Element
wire_element layers wire = boundary_on (slice_get layers wire.layer) (ring wire.rect)

abbrev pub text_on : Option Layer → Point → List ℕ → Element
text_on None at text = Text (pos 0) (pos 0) at text []
text_on (Some layer) at text = Text layer.text_number layer.texttype at text []

abbrev pub label_element : List Layer → PlacedLabel → Element
label_element layers label = text_on (slice_get layers label.layer) label.at label.text

abbrev pub cell_elements : List Layer → DrawnCell → List Element
cell_elements layers cell = map instance_element cell.instances ++ (map (wire_element layers) cell.wires ++ map (label_element layers) cell.labels)

abbrev pub structure_of : List Layer → DrawnCell → Structure
structure_of layers cell = record { name = cell.name; elements = cell_elements layers cell }
