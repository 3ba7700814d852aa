use Rattle.std.proofs.Common.{◌≡◌, length}
use Rattle.port_lists.specs.Cells.{named_cell}
use Rattle.port_lists.proofs.cell.named_cell.Given as goal

abbrev pub invariant-loop-entry : goal.invariant-loop-entry
invariant-loop-entry l = named_cell l.rest l.role ≡ named_cell l.roles l.role

abbrev pub decreases-loop-entry : goal.decreases-loop-entry
decreases-loop-entry l = length l.rest
