-- The greater of the height so far and the one above the next reference.
use Rattle.std.proofs.Common.{◌≡◌, max, get_or, rules}
use Rattle.reference_graph.specs.Height.{height_above}
use Rattle.reference_graph.proofs.HeightLaws.{above_more}
use Rattle.reference_graph.proofs.height.height_of.Goals as goal

pub loop-node-preserved : goal.loop-node-preserved
loop-node-preserved c =
    let next : c.max-height.result ≡ max c.loop-node.height (height_above c.args.heights.now (get_or c.args.references.now c.loop-node.node-index 0)) = search rules in
    rw next (above_more c.args.references.now c.args.heights.now c.loop-node.node-index c.loop-node.height c.loop-node-test.true c.loop-node.invariant)
