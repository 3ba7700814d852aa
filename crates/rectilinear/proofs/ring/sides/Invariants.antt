use Rattle.std.proofs.Common.{◌≡◌, ◌++◌, length}
use Rattle.rectilinear.specs.Ring.{sides_of, sides_on}
use Rattle.rectilinear.proofs.ring.sides.Given as goal

abbrev pub invariant-loop-next : goal.invariant-loop-next
invariant-loop-next l = l.sides.items ++ sides_on l.from l.rest l.first ≡ sides_of l.points

abbrev pub decreases-loop-next : goal.decreases-loop-next
decreases-loop-next l = length l.rest
