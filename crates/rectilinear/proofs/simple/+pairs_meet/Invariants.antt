use Rattle.std.proofs.Common.{length}
use Rattle.rectilinear.proofs.simple.+pairs_meet.Given as goal

abbrev pub decreases-pairs_meet : goal.decreases-pairs_meet
decreases-pairs_meet l = length l.sides.now
