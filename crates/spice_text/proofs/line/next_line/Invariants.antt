use Rattle.std.proofs.Common.{◌≡◌, ◌≤◌, length}
use Rattle.spice_text.specs.Views.{lines_after}
use Rattle.spice_text.proofs.line.next_line.Given as goal

abbrev pub invariant-lines : goal.invariant-lines
invariant-lines l = record { same : lines_after l.left ≡ lines_after l.source; within : length l.left.rest.now ≤ length l.source.rest.now }

abbrev pub decreases-lines : goal.decreases-lines
decreases-lines l = length l.left.rest.now
