use Rattle.leaf_contacts.proofs.StandMarkLaws.{MarksSoFar}
use Rattle.leaf_contacts.proofs.marks.marks_of.Given as goal

abbrev pub invariant-loop-stand : goal.invariant-loop-stand
invariant-loop-stand l = MarksSoFar l.tree l.shapes l.stands l.stand-index l.marks.items
