use Rattle.std.proofs.Common.{◌≡◌, ◌∷◌, ◌++◌, length}
use Rattle.cell_chains.specs.Numbering.{texts, all_referred}
use Rattle.cell_chains.proofs.names.all_names.Given as goal

abbrev pub invariant-loop-first : goal.invariant-loop-first
invariant-loop-first l = texts l.names.items ++ all_referred l.rest ≡ l.top ∷ all_referred l.structs

abbrev pub decreases-loop-first : goal.decreases-loop-first
decreases-loop-first l = length l.rest
