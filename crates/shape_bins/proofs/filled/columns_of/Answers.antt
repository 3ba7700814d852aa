use Rattle.std.proofs.Common.{sym, arith}
use Rattle.shape_bins.proofs.FilledLaws.{own_filled}
use Rattle.shape_bins.proofs.filled.columns_of.Goals as goal

pub loop-shape-preserved : goal.loop-shape-preserved
loop-shape-preserved c =
    let added = c.in_ok-add_filled.ensures in
    record {
      few = omega (arith, added.few, c.loop-shape.invariant.few);
      filled = added.kept c.args.shapes.now c.loop-shape.invariant.filled (own_filled c.args.shapes.now c.shape-item.result (c.loop-shape.shape-index, c.loop-shape-test.true, sym c.shape-item.is));
    }
