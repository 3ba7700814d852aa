use Rattle.std.proofs.Common.{map}
use Rattle.leaf_shapes.specs.Demands.{plain_demand}
use Rattle.leaf_shapes.specs.Pins.{drawing_of}
use Rattle.leaf_shapes.proofs.PinLaws.{ArePinsBefore}
use Rattle.leaf_shapes.proofs.pins.pin_shapes.Given as goal

abbrev pub invariant-loop-index : goal.invariant-loop-index
invariant-loop-index l = ArePinsBefore (drawing_of l.wire l.size l.bins l.labels) (map plain_demand l.all) l.pins l.index
