use Rattle.std.proofs.Common.{length, ◌+◌}
use Rattle.gds_stream.proofs.simple_ring.+runs_meet.Given as goal

abbrev pub decreases-runs_meet : goal.decreases-runs_meet
decreases-runs_meet l = length l.run.now + length l.other.now
