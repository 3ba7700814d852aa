use Rattle.reference_graph.specs.Waits.{AreSeen}
use Rattle.reference_graph.proofs.cycle.next_unseen.Given as goal

abbrev pub invariant-loop-place : goal.invariant-loop-place
invariant-loop-place l = AreSeen l.standings l.references l.place
