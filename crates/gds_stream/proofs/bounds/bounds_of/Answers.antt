use Rattle.gds_stream.proofs.RunLaws.{holds_more}
use Rattle.gds_stream.proofs.bounds.bounds_of.Goals as goal

pub loop-point-preserved : goal.loop-point-preserved
loop-point-preserved c =
    holds_more c.args.points.now _ c.loop-point.point-index c.loop-point.bounds _ c.loop-point-test.true c.with_point-bounds.ensures c.loop-point.invariant
