-- Layers of wires that are the first with their numbers.
use Rattle.std.specs.Prelude.{◌≡◌, ℕ, ◌<◌, List, Some, Contains, slice_get, slice_index}
use Rattle.tech_rules.specs.declared.tech.Layer.{Layer}
use Rattle.tech_rules.specs.declared.tech.Wire.{Wire}
use Rattle.element_drawing.specs.OwnShapes.{layer_with_numbers}
use Rattle.leaf_shapes.specs.Outline.{IsWireLayer}

-- the layer is there and is the first with its numbers
pub record IsFirstLayer (layers : List Layer) (index : ℕ) : Type 0 where
  pub layer : Layer
  pub there : slice_get layers index ≡ Some layer
  pub first : layer_with_numbers layers layer.number layer.datatype ≡ Some index

-- four metals and three cuts, each such a layer
pub record AreFirstLayers (layers : List Layer) (wire : Wire) : Type 0 where
  pub metals : (k : ℕ) → k < 4 → Contains wire.metals (slice_index wire.metals k)
  pub cuts : (k : ℕ) → k < 3 → Contains wire.cuts (slice_index wire.cuts k)
  pub first : (index other : ℕ) (layer : Layer) → IsWireLayer wire index → slice_get layers index ≡ Some layer → layer_with_numbers layers layer.number layer.datatype ≡ Some other → other ≡ index
  pub there : (index : ℕ) → IsWireLayer wire index → IsFirstLayer layers index
