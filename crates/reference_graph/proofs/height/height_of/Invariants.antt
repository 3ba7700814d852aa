use Rattle.std.proofs.Common.{take}
use Rattle.reference_graph.specs.Height.{IsAboveAll}
use Rattle.reference_graph.proofs.height.height_of.Given as goal

abbrev pub invariant-loop-node : goal.invariant-loop-node
invariant-loop-node l = IsAboveAll (take l.node-index l.references) l.heights l.height
