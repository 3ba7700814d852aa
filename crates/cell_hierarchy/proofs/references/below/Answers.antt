-- What stands below the next element is added.
use Rattle.cell_hierarchy.proofs.CountsBelowLaws.{sum_more}
use Rattle.cell_hierarchy.proofs.references.below.Goals as goal

pub loop-place-preserved : goal.loop-place-preserved
loop-place-preserved c = λ total h.
    sum_more c.args.counts.now c.args.targets.now c.args.elements.now c.loop-place.place c.index-elements-place.result c.loop-place.sum c.below_element.result c.sum_of-sum.result total c.loop-place-test.true c.index-elements-place.is
    c.below_element.ensures c.sum_of-sum.ensures (c.loop-place.invariant total h)
