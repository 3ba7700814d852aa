use Rattle.leaf_shapes.proofs.PlaceLaws.{EachBefore}
use Rattle.kit_rules.specs.Joints.{IsBeside}
use Rattle.kit_rules.proofs.joints.are_beside.Given as goal

abbrev pub invariant-loop-place : goal.invariant-loop-place
invariant-loop-place l = EachBefore (IsBeside l.wire l.index) l.layers l.place
