use Rattle.std.proofs.Common.{length, get_or, arith}
use Rattle.label_binding.proofs.FoundLaws.{found_by, found_next, found_all, next_within}
use Rattle.label_binding.proofs.places.places_as_they_lie.Goals as goal

pub bounds-labels-index : goal.bounds-labels-index
bounds-labels-index c = next_within (length c.args.labels.now) c.deref-index-items.result.now c.loop-index.index-index c.loop-index.invariant.order c.loop-index-test.true

pub index_mut-requires : goal.index_mut-requires
index_mut-requires c =
    let inside = next_within (length c.args.labels.now) c.deref-index-items.result.now c.loop-index.index-index c.loop-index.invariant.order c.loop-index-test.true in
    omega (arith, inside, c.loop-index.invariant.found.sized)

pub loop-index-preserved : goal.loop-index-preserved
loop-index-preserved c = record {
  order = c.loop-index.invariant.order;
  found = found_next c.args.bins.now c.args.labels.now c.loop-index.places.items c.deref-index-items.result.now c.loop-index.index-index _ c.bound_shape.result c.loop-index.invariant.order c.loop-index-test.true (found_by c.args.bins.now (get_or c.args.labels.now (get_or c.deref-index-items.result.now c.loop-index.index-index 0) _) c.label_anchor.result c.bound_shape.result c.label_anchor.ensures c.bound_shape.ensures) c.loop-index.invariant.found;
}

pub returns : goal.returns
returns c = found_all c.args.bins.now c.args.labels.now c.deref-index-items.result.now c.loop-index.index-index c.loop-index.places.items c.loop-index.invariant.order c.loop-index-test.false c.loop-index.invariant.found
