-- The library of the demonstration kit, at a scale.
use Rattle.std.specs.Prelude.{ℕ, ◌+◌, ◌*◌, pos, List, [], ◌∷◌, ◌++◌, map, codes}
use Rattle.or_geom.specs.declared.shape.Point.{Point}
use Rattle.gds_library.specs.declared.library.Element.{Element}
use Rattle.gds_library.specs.declared.library.Element.TheVariants.{Boundary, Text}
use Rattle.gds_library.specs.declared.library.Structure.{Structure}
use Rattle.gds_library.specs.declared.library.Library.{Library}
use Rattle.cell_roles.specs.declared.role.Role.{Role}
use Rattle.cell_roles.specs.Roles.{all_roles}
use Rattle.demo_kit.specs.declared.drawing.CellBox.{CellBox}
use Rattle.demo_kit.specs.Layers.{demo_layer_number}
use Rattle.demo_kit.specs.CellNames.{demo_cell_name}
use Rattle.demo_kit.specs.Drawing.{DrawnPin, cell_pins, cell_boxes}

abbrev pub scaled_point : ℕ → ℕ → ℕ → Point
scaled_point scale x y = record { x = pos (scale * x); y = pos (scale * y) }

-- counter-clockwise from the lower left corner
abbrev pub box_corners : ℕ → CellBox → List Point
box_corners scale b =
    scaled_point scale b.x1 b.y1 ∷ scaled_point scale b.x2 b.y1 ∷ scaled_point scale b.x2 b.y2
    ∷ scaled_point scale b.x1 b.y2 ∷ []

abbrev pub box_boundary : ℕ → CellBox → Element
box_boundary scale b = Boundary (pos (demo_layer_number b.layer)) (pos 0) (box_corners scale b) []

-- the pin's name, inside its shape
abbrev pub pin_label : ℕ → DrawnPin → Element
pin_label scale p =
    let inside = scaled_point scale (p.shape.x1 + 2) (p.shape.y1 + 2) in
    Text (pos (demo_layer_number p.shape.layer)) (pos 0) inside p.name []

-- the boxes, and then the names of the pins
unfoldable pub cell_elements : ℕ → Role → List Element
cell_elements scale role = map (box_boundary scale) (cell_boxes role) ++ map (pin_label scale) (cell_pins role)

unfoldable pub cell_structure : ℕ → Role → Structure
cell_structure scale role = record { name = demo_cell_name role; elements = cell_elements scale role }

-- a structure for each role, in order
unfoldable pub demo_library : ℕ → Library
demo_library scale = record { name = codes "demo_tech"; structs = map (cell_structure scale) all_roles }
