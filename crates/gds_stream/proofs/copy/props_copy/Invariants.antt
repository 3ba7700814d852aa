use Rattle.std.proofs.Common.{◌≡◌, ◌++◌, length}
use Rattle.gds_stream.proofs.copy.props_copy.Given as goal

abbrev pub invariant-loop-prop : goal.invariant-loop-prop
invariant-loop-prop l = l.copies.items ++ l.rest ≡ l.props

abbrev pub decreases-loop-prop : goal.decreases-loop-prop
decreases-loop-prop l = length l.rest
