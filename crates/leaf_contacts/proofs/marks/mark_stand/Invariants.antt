use Rattle.leaf_contacts.proofs.StandMarkLaws.{StandSoFar}
use Rattle.leaf_contacts.proofs.marks.mark_stand.Given as goal

abbrev pub invariant-loop-number : goal.invariant-loop-number
invariant-loop-number l = StandSoFar l.own l.shapes l.stand l.fn.marks l.number l.marks
