use Rattle.std.proofs.Common.{length}
use Rattle.rectilinear.proofs.ChangeLaws.{PassesSoFar}
use Rattle.rectilinear.proofs.changes.pass.Given as goal

abbrev pub invariant-loop-change : goal.invariant-loop-change
invariant-loop-change l = PassesSoFar l.fn.changes l.fn.height.y l.fn.ends.items l.rest l.ends.items

abbrev pub decreases-loop-change : goal.decreases-loop-change
decreases-loop-change l = length l.rest
