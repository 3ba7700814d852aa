use Rattle.std.proofs.Common.{length, ◌/◌, arith}
use Rattle.gds_stream.proofs.RunLaws.{half_run}
use Rattle.gds_stream.proofs.simple_ring.halves.Goals as goal

pub returns-clause-parts : goal.returns-clause-parts
returns-clause-parts c = half_run c.args.run.now (length c.args.run.now / 2) (omega arith)
