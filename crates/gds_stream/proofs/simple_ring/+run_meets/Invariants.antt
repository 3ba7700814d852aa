use Rattle.std.proofs.Common.{length}
use Rattle.gds_stream.proofs.simple_ring.+run_meets.Given as goal

abbrev pub decreases-run_meets : goal.decreases-run_meets
decreases-run_meets l = length l.run.now
