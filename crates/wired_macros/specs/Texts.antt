-- What the labels of a macro's own ports rest on.
use Rattle.std.specs.Prelude.{◌≡◌, ℕ, pos, List, Contains, Some, slice_get, slice_index}
use Rattle.or_geom.specs.declared.shape.Shape.{Shape}
use Rattle.tech_rules.specs.declared.tech.Layer.{Layer}
use Rattle.tech_rules.specs.declared.tech.Wire.{Wire}
use Rattle.element_drawing.specs.OwnLabels.{text_place_of}
use Rattle.sram_netlist.specs.Instances.{LeafInstance}
use Rattle.sram_netlist.specs.Membership.{HasLeafInstance}
use Rattle.sram_netlist.specs.Netlist.{role}
use Rattle.good_places.specs.Leaves.{PassesAtMost}
use Rattle.leaf_shapes.specs.Outline.{IsWireLayer}
use Rattle.kit_nets.specs.StatedParts.{Source, leaf_lists}

-- the layer is there and is the first whose labels have its numbers
pub record IsFirstTextLayer (layers : List Layer) (index : ℕ) : Type 0 where
  pub layer : Layer
  pub there : slice_get layers index ≡ Some layer
  pub first : text_place_of layers layer.text_number layer.texttype ≡ Some index

-- so are the second and the third metal
pub record AreFirstTextLayers (layers : List Layer) (wire : Wire) : Type 0 where
  pub second : IsFirstTextLayer layers (slice_index wire.metals 1)
  pub third : IsFirstTextLayer layers (slice_index wire.metals 2)

-- on layers of wires leaf cells draw inside of their sides
abbrev pub AreLeavesInside : Source → Type 0
AreLeavesInside s = (leaf : LeafInstance) (inner : Shape) → HasLeafInstance s.plan leaf → Contains (leaf_lists s leaf).shapes inner → IsWireLayer s.wire inner.layer → PassesAtMost (pos 0) (s.kit.width (role s.plan leaf)) (s.kit.height (role s.plan leaf)) inner.rect
