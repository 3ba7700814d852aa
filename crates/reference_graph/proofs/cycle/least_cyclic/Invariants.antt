use Rattle.std.proofs.Common.{ℕ, ◌<◌}
use Rattle.reference_graph.specs.Reaches.{IsMarked}
use Rattle.reference_graph.proofs.cycle.least_cyclic.Given as goal

abbrev pub invariant-loop-node : goal.invariant-loop-node
invariant-loop-node l = (other : ℕ) → other < l.node → IsMarked l.marks.items other → ⊥
