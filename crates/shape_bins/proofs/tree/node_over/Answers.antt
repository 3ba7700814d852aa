use Rattle.std.proofs.Common.{length, refl, arith}
use Rattle.std.proofs.lemmas.Option.{slice_get_read}
use Rattle.or_geom.proofs.ContainingLaws.{around_first, around_second}
use Rattle.shape_bins.proofs.TreeLaws.{holds_goes_on, least_goes_on, over_made}
use Rattle.shape_bins.proofs.tree.node_over.Goals as goal

pub loop-leaf-preserved : goal.loop-leaf-preserved
loop-leaf-preserved c =
    let there = slice_get_read c.args.leaves.now (length c.args.leaves.now) c.loop-leaf.leaf-index c.leaf-item.result refl c.loop-leaf-test.true c.leaf-item.is in
    record {
      holds = holds_goes_on c.args.leaves.now c.loop-leaf.leaf-index c.loop-leaf.rect c.around-rect.result c.leaf-item.result there
          c.loop-leaf.invariant.holds (around_first _ _ _ c.around-rect.ensures) (around_second _ _ _ c.around-rect.ensures);
      least = least_goes_on c.args.leaves.now c.loop-leaf.leaf-index c.loop-leaf.least c.min-least.result c.leaf-item.result there c.loop-leaf.invariant.least (omega arith) (omega arith);
    }

pub returns : goal.returns
returns c = over_made c.args.leaves.now c.index-leaves-0.result c.index-leaves-leaves.result c.loop-leaf.rect c.loop-leaf.leaf-index c.loop-leaf.least _ c.requires.some
    (slice_get_read c.args.leaves.now (length c.args.leaves.now) 0 c.index-leaves-0.result refl c.requires.some c.index-leaves-0.is) c.loop-leaf-test.false c.loop-leaf.invariant.holds c.loop-leaf.invariant.least (omega (arith, c.requires.some))
