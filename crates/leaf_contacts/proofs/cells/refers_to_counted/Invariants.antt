use Rattle.leaf_contacts.proofs.SummaryLaws.{NoneRefers}
use Rattle.leaf_contacts.proofs.cells.refers_to_counted.Given as goal

abbrev pub invariant-loop-index : goal.invariant-loop-index
invariant-loop-index l = NoneRefers l.elements l.targets l.summaries l.index
