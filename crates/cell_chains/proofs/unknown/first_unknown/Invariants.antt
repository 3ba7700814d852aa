use Rattle.std.proofs.Common.{ℕ, ◌<◌}
use Rattle.reference_graph.specs.Reaches.{Reaches}
use Rattle.cell_chains.specs.Listing.{IsKnown}
use Rattle.cell_chains.proofs.unknown.first_unknown.Given as goal

abbrev pub invariant-loop-node : goal.invariant-loop-node
invariant-loop-node l = (other : ℕ) → other < l.node → Reaches l.graph l.start other → IsKnown l.firsts other
