use Rattle.std.proofs.Common.{◌≡◌, ◌∷◌, ◌<◌, length}
use Rattle.spice_text.specs.LogicalLines.{join}
use Rattle.spice_text.specs.Views.{lines_after, logical_of}
use Rattle.spice_text.proofs.logical.next_logical.Given as goal

abbrev pub invariant-lines : goal.invariant-lines
invariant-lines l = record { same : join (logical_of l.logical ∷ lines_after l.left) ≡ join (lines_after l.fn.source); within : length l.left.rest.now < length l.fn.source.rest.now }

abbrev pub decreases-lines : goal.decreases-lines
decreases-lines l = length l.left.rest.now
