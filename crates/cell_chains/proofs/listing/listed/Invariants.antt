use Rattle.cell_chains.specs.Numbering.{texts}
use Rattle.cell_chains.proofs.TargetLaws.{AreListedTo}
use Rattle.cell_chains.proofs.listing.listed.Given as goal

abbrev pub invariant-loop-node : goal.invariant-loop-node
invariant-loop-node l = AreListedTo l.structs (texts l.nodes.names.items) l.nodes.firsts.items l.positions.items l.order l.heights l.node-index l.cells.items
