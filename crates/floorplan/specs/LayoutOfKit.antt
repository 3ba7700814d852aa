-- What a layout takes of a kit.
use Rattle.std.specs.Prelude.{ℕ, pos, ◌==◌, false, List, Option, Some, None, slice_get, option_map, option_and_then, if◌then◌else◌}
use Rattle.std.specs.Str.{bytes_eq}
use Rattle.std.specs.List.{find}
use Rattle.or_geom.specs.declared.shape.Rect.{Rect}
use Rattle.cell_roles.specs.declared.role.Role.{Role}
use Rattle.cell_roles.specs.Roles.{role_ports}
use Rattle.leaf_shapes.specs.declared.pins.LeafPin.{LeafPin}
use Rattle.tech_rules.specs.declared.tech.Wire.{Wire}
use Rattle.leaf_tables.specs.declared.kit.Leaf.{Leaf}
use Rattle.leaf_tables.specs.declared.kit.Kit.{Kit}
use Rattle.leaf_tables.specs.Alignment.{leaf_in}
use Rattle.port_lists.specs.Cells.{cell_in}
use Rattle.macro_layout.specs.LayoutKit.{LayoutKit}
use Rattle.floorplan.specs.LeafSides.{leaf_width, leaf_height}

-- the first of the pins that has this name and is on this layer
abbrev pub pin_on : List LeafPin → List ℕ → ℕ → Option LeafPin
pin_on pins name layer = find (λ (pin : LeafPin). if bytes_eq pin.pin name then pin.layer == layer else false) pins

-- the name of the role's port, and the layer of the metal
abbrev pub port_name : Role → ℕ → Option (List ℕ)
port_name role port = slice_get (role_ports role) port

abbrev pub layer_of_metal : Option Wire → ℕ → Option ℕ
layer_of_metal wire metal = option_and_then (λ (w : Wire). slice_get w.metals metal) wire

-- the shape of the role's pin that is named so and on this layer
abbrev pub pin_rect : Option Leaf → List ℕ → ℕ → Option Rect
pin_rect leaf name layer = option_and_then (λ (l : Leaf). option_map (λ (pin : LeafPin). pin.rect) (pin_on l.pins name layer)) leaf

abbrev pub pin_shape : Kit → Role → ℕ → ℕ → Option Rect
pin_shape kit role port metal = option_and_then (λ (name : List ℕ). option_and_then (pin_rect (leaf_in kit.leaves role) name) (layer_of_metal kit.tech.wire metal)) (port_name role port)

-- what stands for a pin that the kit hasn't; it is in no layout (asked_pins)
abbrev pub unit_square : Rect
unit_square = record { x1 = pos 0; y1 = pos 0; x2 = pos 1; y2 = pos 1; wide = record { lt = tt }; tall = record { lt = tt } }

abbrev pub shape_or_square : Option Rect → Rect
shape_or_square None = unit_square
shape_or_square (Some rect) = rect

abbrev pub layout_kit : Kit → LayoutKit
layout_kit kit = record {
  cell = cell_in kit.tech.roles;
  width = leaf_width kit;
  height = leaf_height kit;
  pin = λ (role : Role) (port metal : ℕ). shape_or_square (pin_shape kit role port metal);
}
