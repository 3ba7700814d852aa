use Rattle.cell_chains.specs.Numbering.{texts}
use Rattle.cell_chains.proofs.ReferenceLaws.{IsGraphTo}
use Rattle.cell_chains.proofs.nodes.graph_of.Given as goal

abbrev pub invariant-loop-first : goal.invariant-loop-first
invariant-loop-first l = IsGraphTo l.structs (texts l.names) l.graph.items l.first-index
