use Rattle.std.proofs.Common.{refl}
use Rattle.or_geom.proofs.GatheringLaws.{among_found}
use Rattle.leaf_nets.specs.Loose.{IsJoint}
use Rattle.leaf_nets.proofs.loose.joins.Goals as goal

pub returns-then-is_joint : goal.returns-then-is_joint
returns-then-is_joint c = (
  (λ yes. among_found (IsJoint c.args.layer) c.args.connects.now c.loop-connect.connect-index c.connect-item.result c.loop-connect-test.true c.connect-item.is (c.if-is_joint.ensures.0 refl)),
  (λ h. refl),
)
