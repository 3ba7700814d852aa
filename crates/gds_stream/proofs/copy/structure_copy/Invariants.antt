use Rattle.std.proofs.Common.{◌≡◌, ◌++◌, length}
use Rattle.gds_stream.proofs.copy.structure_copy.Given as goal

abbrev pub invariant-loop-element : goal.invariant-loop-element
invariant-loop-element l = l.copies.items ++ l.rest ≡ l.structure.elements

abbrev pub decreases-loop-element : goal.decreases-loop-element
decreases-loop-element l = length l.rest
