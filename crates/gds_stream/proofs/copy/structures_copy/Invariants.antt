use Rattle.std.proofs.Common.{◌≡◌, ◌++◌, length}
use Rattle.gds_stream.proofs.copy.structures_copy.Given as goal

abbrev pub invariant-loop-structure : goal.invariant-loop-structure
invariant-loop-structure l = l.copies.items ++ l.rest ≡ l.structures

abbrev pub decreases-loop-structure : goal.decreases-loop-structure
decreases-loop-structure l = length l.rest
