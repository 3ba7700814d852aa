use Rattle.std.proofs.Common.{length}
use Rattle.cell_chains.specs.Numbering.{texts}
use Rattle.cell_chains.proofs.ReferenceLaws.{IsReading}
use Rattle.cell_chains.proofs.nodes.references.Given as goal

abbrev pub invariant-loop-first : goal.invariant-loop-first
invariant-loop-first l = IsReading (texts l.names) l.elements l.rest l.nodes

abbrev pub decreases-loop-first : goal.decreases-loop-first
decreases-loop-first l = length l.rest
