-- The shapes of a cell's pins, and why there may be none.
use Rattle.std.specs.Prelude.{◌≡◌, ℕ, ◌<◌, List, length, slice_get, Some, map}
use Rattle.or_geom.specs.Gathering.{SomeHas}
use Rattle.or_geom.specs.declared.shape.Shape.{Shape}
use Rattle.tech_rules.specs.declared.tech.Wire.{Wire}
use Rattle.element_drawing.specs.PlainLabel.{PlainLabel}
use Rattle.cell_hierarchy.specs.declared.flat.Label.{Label}
use Rattle.cell_hierarchy.specs.Plain.{plain_label}
use Rattle.leaf_shapes.specs.declared.demand.Metal.{Metal}
use Rattle.leaf_shapes.specs.declared.fault.PinFault.{PinFault}
use Rattle.leaf_shapes.specs.declared.fault.PinFault.TheVariants.{PinMissing, PinLayer, EdgePin, Memory}
use Rattle.leaf_shapes.specs.declared.fit.CellSize.{CellSize}
use Rattle.leaf_shapes.specs.declared.pins.LeafPin.{LeafPin}
use Rattle.leaf_shapes.specs.Candidates.{HasCandidate, NoCandidate, IsFirstCandidate}
use Rattle.leaf_shapes.specs.Demands.{PinDemand, metal_layer}
use Rattle.leaf_shapes.specs.Fits.{FitsCell}

-- a cell: what wires are drawn with, its size, and its flat shapes and labels
pub record CellDrawing : Type 0 where
  pub wire : Wire
  pub size : CellSize
  pub shapes : List Shape
  pub labels : List PlainLabel

abbrev pub drawing_of : Wire → CellSize → List Shape → List Label → CellDrawing
drawing_of wire size shapes labels = record { wire = wire; size = size; shapes = shapes; labels = map plain_label labels }

-- the shape is on the metal
abbrev pub IsOnMetal : Wire → Metal → Shape → Type 0
IsOnMetal wire metal shape = shape.layer ≡ metal_layer wire metal

-- the shape is on the demand's layer and lies as demanded
abbrev pub IsDemanded : CellDrawing → PinDemand → Shape → Type 0
IsDemanded cell demand shape = IsOnMetal cell.wire demand.metal shape × FitsCell demand.fit cell.wire.width cell.size shape.rect

-- some shape that the pin's labels bind is as demanded
abbrev pub IsMet : CellDrawing → PinDemand → Type 0
IsMet cell demand = HasCandidate (IsDemanded cell demand) cell.shapes cell.labels demand.pin

-- the pin's shape for the demand: the first in order of labels that is as demanded
pub record IsPinFor (cell : CellDrawing) (demand : PinDemand) (pin : LeafPin) : Type 0 where
  pub named : pin.pin ≡ demand.pin
  pub is : IsFirstCandidate (IsDemanded cell demand) cell.shapes cell.labels demand.pin (record { layer = pin.layer; rect = pin.rect })

-- one for each demand, in order
pub record AreLeafPins (cell : CellDrawing) (demands : List PinDemand) (pins : List LeafPin) : Type 0 where
  pub sized : length pins ≡ length demands
  pub each : (place : ℕ) (demand : PinDemand) (pin : LeafPin) → slice_get demands place ≡ Some demand → slice_get pins place ≡ Some pin → IsPinFor cell demand pin

-- the first demand that isn't met
pub record IsFirstUnmet (cell : CellDrawing) (demands : List PinDemand) (demand : PinDemand) : Type 0 where
  pub place : ℕ
  pub there : slice_get demands place ≡ Some demand
  pub unmet : IsMet cell demand → ⊥
  pub before : (earlier : ℕ) (other : PinDemand) → earlier < place → slice_get demands earlier ≡ Some other → IsMet cell other

-- it is one of this pin's
pub record FirstLacks (cell : CellDrawing) (demands : List PinDemand) (pin : List ℕ) : Type 0 where
  pub demand : PinDemand
  pub unmet : IsFirstUnmet cell demands demand
  pub of : demand.pin ≡ pin

-- the pin's labels bind no shape
abbrev pub IsUnbound : CellDrawing → List ℕ → Type 0
IsUnbound cell pin = NoCandidate (λ shape. Unit {0}) cell.shapes cell.labels pin

-- the demand is the pin's, and none of the shapes that its labels bind is on the layer
pub record LacksLayer (wire : Wire) (shapes : List Shape) (labels : List PlainLabel) (pin : List ℕ) (demand : PinDemand) : Type 0 where
  pub of : demand.pin ≡ pin
  pub none : NoCandidate (IsOnMetal wire demand.metal) shapes labels pin

-- one of the demands is such
abbrev pub IsOffLayer : CellDrawing → List PinDemand → List ℕ → Type 0
IsOffLayer cell demands pin = SomeHas (LacksLayer cell.wire cell.shapes cell.labels pin) demands

-- The pin with the first demand that isn't met: its labels bind no shape; or else, for one of its demands, none on the
-- layer; or else, for one of its demands, none on the layer that lies as demanded.
abbrev pub IsPinFault : CellDrawing → List PinDemand → PinFault → Type 0
IsPinFault cell demands (PinMissing pin) = FirstLacks cell demands pin × IsUnbound cell pin
IsPinFault cell demands (PinLayer pin) = FirstLacks cell demands pin × (IsUnbound cell pin → ⊥) × IsOffLayer cell demands pin
IsPinFault cell demands (EdgePin pin) = FirstLacks cell demands pin × (IsUnbound cell pin → ⊥) × (IsOffLayer cell demands pin → ⊥)
IsPinFault cell demands Memory = Unit {0}
