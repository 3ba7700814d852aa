use Rattle.std.proofs.Common.{◌≡◌, ◌++◌, length}
use Rattle.rectilinear.specs.Corners.{steps}
use Rattle.rectilinear.proofs.dropping.moving_sides.Given as goal

abbrev pub invariant-loop-side : goal.invariant-loop-side
invariant-loop-side l = l.moving.items ++ steps l.rest ≡ steps l.sides

abbrev pub decreases-loop-side : goal.decreases-loop-side
decreases-loop-side l = length l.rest
