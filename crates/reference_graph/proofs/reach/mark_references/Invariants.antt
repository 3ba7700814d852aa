use Rattle.std.proofs.Common.{take}
use Rattle.reference_graph.specs.Spread.{Spreads}
use Rattle.reference_graph.proofs.reach.mark_references.Given as goal

abbrev pub invariant-loop-node : goal.invariant-loop-node
invariant-loop-node l = Spreads (take l.node-index l.references) l.initial.marks l.initial.found.items l.marks l.found.items
