use Rattle.std.proofs.Common.{◌≡◌, length}
use Rattle.rectilinear.specs.Corners.{last_of}
use Rattle.rectilinear.proofs.dropping.last_side.Given as goal

abbrev pub invariant-loop-side : goal.invariant-loop-side
invariant-loop-side l = last_of l.last l.rest ≡ last_of l.fn.first l.others

abbrev pub decreases-loop-side : goal.decreases-loop-side
decreases-loop-side l = length l.rest
