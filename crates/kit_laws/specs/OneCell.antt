-- A cell has one outline, and one shape for each demand or one fault of its pins.
use Rattle.std.specs.Prelude.{◌≡◌, ◌≢◌, ℕ, List}
use Rattle.std.specs.List.Sorted.{IsStrictlySortedBy}
use Rattle.or_geom.specs.declared.shape.Shape.{Shape}
use Rattle.or_geom.specs.ShapeOrder.{shape_order}
use Rattle.tech_rules.specs.declared.tech.Wire.{Wire}
use Rattle.leaf_shapes.specs.declared.fault.PinFault.{PinFault}
use Rattle.leaf_shapes.specs.declared.fault.PinFault.TheVariants as pin_fault
use Rattle.leaf_shapes.specs.declared.fit.CellSize.{CellSize}
use Rattle.leaf_shapes.specs.declared.pins.LeafPin.{LeafPin}
use Rattle.leaf_shapes.specs.Demands.{PinDemand}
use Rattle.leaf_shapes.specs.Outline.{IsCellOutline}
use Rattle.leaf_shapes.specs.Pins.{CellDrawing, AreLeafPins, IsPinFault}

-- shapes have one outline
abbrev pub OutlinesAreUnique : Type 0
OutlinesAreUnique = (wire : Wire) (outline : ℕ) (shapes : List Shape) (a b : CellSize)
    → IsCellOutline wire outline shapes a → IsCellOutline wire outline shapes b → a ≡ b

-- a cell whose shapes stand in order has one shape for each demand
abbrev pub LeafPinsAreUnique : Type 0
LeafPinsAreUnique = (cell : CellDrawing) (demands : List PinDemand) (a b : List LeafPin) → IsStrictlySortedBy shape_order cell.shapes
    → AreLeafPins cell demands a → AreLeafPins cell demands b → a ≡ b

-- two faults of its pins are one, out of memory aside
abbrev pub PinFaultsAreUnique : Type 0
PinFaultsAreUnique = (cell : CellDrawing) (demands : List PinDemand) (f g : PinFault) → f ≢ pin_fault.Memory → g ≢ pin_fault.Memory
    → IsPinFault cell demands f → IsPinFault cell demands g → f ≡ g

-- and there is none where each demand has its shape
abbrev pub PinFaultsExcludePins : Type 0
PinFaultsExcludePins = (cell : CellDrawing) (demands : List PinDemand) (pins : List LeafPin) (f : PinFault) → f ≢ pin_fault.Memory
    → IsPinFault cell demands f → AreLeafPins cell demands pins → ⊥
