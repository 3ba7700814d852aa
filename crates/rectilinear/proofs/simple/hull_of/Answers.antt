use Rattle.rectilinear.proofs.HullLaws.{hull_more}
use Rattle.rectilinear.proofs.simple.hull_of.Goals as goal

pub loop-side-preserved : goal.loop-side-preserved
loop-side-preserved c = hull_more c.args.first c.args.others.now _ c.loop-side.side-index c.loop-side.hull _ c.around-hull.result c.loop-side-test.true c.extent_of.ensures c.around-hull.ensures c.loop-side.invariant
