use Rattle.leaf_shapes.proofs.PlaceLaws.{EachBefore}
use Rattle.kit_rules.specs.Joints.{IsWireJoint}
use Rattle.kit_rules.proofs.joints.first_wrong_joint.Given as goal

abbrev pub invariant-loop-index : goal.invariant-loop-index
invariant-loop-index l = EachBefore (IsWireJoint l.wire) l.connects l.index
