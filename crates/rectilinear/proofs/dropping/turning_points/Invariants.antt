use Rattle.std.proofs.Common.{◌≡◌, ◌++◌, length}
use Rattle.rectilinear.specs.Corners.{turns_after}
use Rattle.rectilinear.proofs.dropping.turning_points.Given as goal

abbrev pub invariant-loop-side : goal.invariant-loop-side
invariant-loop-side l = l.points.items ++ turns_after l.before l.rest ≡ turns_after l.fn.last l.sides

abbrev pub decreases-loop-side : goal.decreases-loop-side
decreases-loop-side l = length l.rest
