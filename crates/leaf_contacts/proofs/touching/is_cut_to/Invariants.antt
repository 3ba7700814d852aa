use Rattle.or_geom.proofs.GatheringLaws.{IsAmongLeft}
use Rattle.tech_rules.specs.Touch.{Joins}
use Rattle.leaf_contacts.proofs.touching.is_cut_to.Given as goal

abbrev pub invariant-loop-connect : goal.invariant-loop-connect
invariant-loop-connect l = IsAmongLeft (Joins l.cut l.other) l.connections l.connect-index
