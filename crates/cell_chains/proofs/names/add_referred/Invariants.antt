use Rattle.std.proofs.Common.{◌≡◌, ◌++◌, length}
use Rattle.cell_chains.specs.Numbering.{texts, referred_names}
use Rattle.cell_chains.proofs.names.add_referred.Given as goal

abbrev pub invariant-loop-first : goal.invariant-loop-first
invariant-loop-first l = texts l.names.items ++ referred_names l.rest ≡ texts l.fn.names.items ++ referred_names l.elements

abbrev pub decreases-loop-first : goal.decreases-loop-first
decreases-loop-first l = length l.rest
