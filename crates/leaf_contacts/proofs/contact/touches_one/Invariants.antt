use Rattle.or_geom.proofs.GatheringLaws.{IsAmongLeft}
use Rattle.leaf_contacts.specs.Marks.{IsTouching}
use Rattle.leaf_contacts.proofs.contact.touches_one.Given as goal

abbrev pub invariant-loop-shape : goal.invariant-loop-shape
invariant-loop-shape l = IsAmongLeft (IsTouching l.connects l.other) l.moved l.shape-index
