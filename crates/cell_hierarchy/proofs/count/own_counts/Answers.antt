use Rattle.std.proofs.Common.{arith}
use Rattle.cell_hierarchy.proofs.CellLaws.{there_at}
use Rattle.cell_hierarchy.proofs.OwnLaws.{same_read}
use Rattle.cell_hierarchy.proofs.CountLaws.{own_counted, counts_begin, counts_go_on, counts_end}
use Rattle.cell_hierarchy.proofs.count.own_counts.Goals as goal

pub loop-index-init : goal.loop-index-init
loop-index-init c = counts_begin _ _ _ _ c.in_ok-counts.ensures.items

pub loop-index-preserved : goal.loop-index-preserved
loop-index-preserved c =
    let t = c.args.tree.now in
    let there = there_at t.cells.now c.loop-index.index c.loop-index-test.true in
    counts_go_on t.layers.now t.structs.now t.cells.now c.loop-index.index there.item _ c.loop-index.counts.items _ there.is c.in_ok-push.ensures.items
    (own_counted t.layers.now t.keeps_labels t.structs.now t.cells.now t.parts.now c.loop-index.index there.item _ _ c.requires.cells c.requires.parts there.is (same_read t.parts.now c.loop-index.index _ _ (let lt = c.loop-index-test.true in let sized = c.requires.parts.sized in omega (arith, lt, sized))) c.counts_of.ensures) c.loop-index.invariant

pub returns : goal.returns
returns c = let t = c.args.tree.now in counts_end t.layers.now t.structs.now t.cells.now c.loop-index.index _ c.loop-index-test.false c.loop-index.invariant
