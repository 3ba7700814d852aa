use Rattle.reference_graph.proofs.HeightLaws.{AreKnown}
use Rattle.reference_graph.proofs.height.heights.Given as goal

abbrev pub invariant-loop-node : goal.invariant-loop-node
invariant-loop-node l = AreKnown l.graph l.order l.heights.items l.node-index
