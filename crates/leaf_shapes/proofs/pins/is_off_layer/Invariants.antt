use Rattle.std.proofs.Common.{map}
use Rattle.cell_hierarchy.specs.Plain.{plain_label}
use Rattle.leaf_shapes.specs.Demands.{PinDemand, plain_demand}
use Rattle.leaf_shapes.specs.Pins.{LacksLayer}
use Rattle.leaf_shapes.proofs.PlaceLaws.{EachBefore}
use Rattle.leaf_shapes.proofs.pins.is_off_layer.Given as goal

abbrev pub invariant-loop-index : goal.invariant-loop-index
invariant-loop-index l = EachBefore (λ (d : PinDemand). LacksLayer l.wire l.bins (map plain_label l.labels) l.pin d → ⊥) (map plain_demand l.demands) l.index
