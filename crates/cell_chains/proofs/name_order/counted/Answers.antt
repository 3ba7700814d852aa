use Rattle.cell_chains.proofs.OrderedLaws.{counted_more}
use Rattle.cell_chains.proofs.name_order.counted.Goals as goal

pub loop-n-preserved : goal.loop-n-preserved
loop-n-preserved c = rw c.in_ok-push.ensures.items (counted_more c.loop-n.numbers.items c.loop-n.n c.loop-n.invariant)
