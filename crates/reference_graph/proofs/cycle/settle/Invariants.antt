use Rattle.reference_graph.specs.Waits.{AreSettled}
use Rattle.reference_graph.proofs.cycle.settle.Given as goal

abbrev pub invariant-loop-at : goal.invariant-loop-at
invariant-loop-at l = AreSettled l.waiting l.place l.at l.initial.standings l.standings
