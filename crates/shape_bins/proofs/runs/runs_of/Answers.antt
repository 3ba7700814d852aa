use Rattle.std.proofs.Common.{sym}
use Rattle.shape_bins.proofs.runs.runs_of.Goals as goal

pub loop-shape-preserved : goal.loop-shape-preserved
loop-shape-preserved c = c.in_ok-add_shape.ensures c.args.shapes.now (c.loop-shape.shape-index, c.loop-shape-test.true, sym c.shape-item.is) c.loop-shape.invariant

pub returns : goal.returns
returns c = (c.in_ok-close_all.ensures c.args.shapes.now c.loop-shape.invariant).1
