use Rattle.std.proofs.Common.{length, ◌↔◌}
use Rattle.rectilinear.specs.Simple.{AllStraight}
use Rattle.rectilinear.proofs.simple.all_straight.Given as goal

abbrev pub invariant-loop-side : goal.invariant-loop-side
invariant-loop-side l = AllStraight l.rest ↔ AllStraight l.sides

abbrev pub decreases-loop-side : goal.decreases-loop-side
decreases-loop-side l = length l.rest
