use Rattle.std.proofs.Common.{length, ◌+◌}
use Rattle.rectilinear.proofs.simple.+meet_across.Given as goal

abbrev pub decreases-meet_across : goal.decreases-meet_across
decreases-meet_across l = length l.sides.now + length l.others.now
