-- The nodes before a node in the order have their heights, and what it refers to is among them.
use Rattle.std.proofs.Common.{◌≡◌, ap, ◌∙◌, length, arith}
use Rattle.reference_graph.proofs.HeightLaws.{known_within, known_more, known_all}
use Rattle.reference_graph.proofs.height.heights.Goals as goal

pub height_of-requires : goal.height_of-requires
height_of-requires c =
    let sized : length c.deref.result.now ≡ length c.args.graph.now = ap length c.deref.ensures.value ∙ c.loop-node.invariant.sized in
    rw sized (known_within c.args.graph.now c.args.order.now c.loop-node.node-index c.references_of.result.now c.requires c.loop-node-test.true c.references_of.ensures)

pub loop-node-preserved : goal.loop-node-preserved
loop-node-preserved c =
    known_more c.args.graph.now c.args.order.now c.loop-node.heights.items c.loop-node.node-index c.references_of.result.now c.height_of.result c.requires c.loop-node-test.true c.loop-node.invariant
    c.references_of.ensures (rw c.deref.ensures.value at c.height_of.ensures)

pub returns : goal.returns
returns c = known_all c.args.graph.now c.args.order.now c.loop-node.heights.items c.loop-node.node-index (omega arith) c.loop-node.invariant
