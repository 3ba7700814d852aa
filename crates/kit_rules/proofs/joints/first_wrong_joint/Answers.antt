use Rattle.std.proofs.Common.{refl}
use Rattle.leaf_shapes.proofs.PlaceLaws.{each_more}
use Rattle.kit_rules.specs.Joints.{IsWireJoint}
use Rattle.kit_rules.proofs.PlaceLaws.{read_at, first_without, each_has}
use Rattle.kit_rules.proofs.joints.first_wrong_joint.Goals as goal

pub returns-then-not-is_wire_joint : goal.returns-then-not-is_wire_joint
returns-then-not-is_wire_joint c =
    first_without (IsWireJoint c.args.wire.now) c.args.connects.now c.loop-index.index c.index-connects-index.result (read_at c.args.connects.now c.loop-index.index c.index-connects-index.result c.loop-index-test.true c.index-connects-index.is)
    (λ h. let yes = c.if-not-is_wire_joint.ensures.1 h in absurd cc) c.loop-index.invariant

pub loop-index-preserved : goal.loop-index-preserved
loop-index-preserved c =
    each_more (IsWireJoint c.args.wire.now) c.args.connects.now c.loop-index.index c.index-connects-index.result (read_at c.args.connects.now c.loop-index.index c.index-connects-index.result c.loop-index-test.true c.index-connects-index.is)
    (c.if-not-is_wire_joint.ensures.0 refl) c.loop-index.invariant

pub returns : goal.returns
returns c = each_has (IsWireJoint c.args.wire.now) c.args.connects.now c.loop-index.index c.loop-index-test.false c.loop-index.invariant
