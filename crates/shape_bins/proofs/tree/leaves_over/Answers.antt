use Rattle.std.proofs.Common.{arith}
use Rattle.shape_bins.proofs.TreeLaws.{leaves_push}
use Rattle.shape_bins.proofs.tree.leaves_over.Goals as goal

pub loop-first-preserved : goal.loop-first-preserved
loop-first-preserved c = record {
  within = omega arith;
  above = omega (arith, c.loop-first.invariant.above);
  few = omega (arith, c.loop-first.invariant.few, c.in_ok-push.ensures.len);
  leaves = rw c.in_ok-push.ensures.items (leaves_push c.args.shapes.now c.args.places.now c.args.layer c.args.begin c.loop-first.first c.min-end.result c.loop-first.leaves.items c.leaf_over.result c.loop-first.invariant.leaves c.leaf_over.ensures);
}
