use Rattle.or_geom.proofs.GatheringLaws.{IsAmongLeft}
use Rattle.leaf_nets.specs.Loose.{IsJoint}
use Rattle.leaf_nets.proofs.loose.joins.Given as goal

abbrev pub invariant-loop-connect : goal.invariant-loop-connect
invariant-loop-connect l = IsAmongLeft (IsJoint l.layer) l.connects l.connect-index
