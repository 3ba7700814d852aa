use Rattle.std.proofs.Common.{get_or}
use Rattle.label_binding.proofs.FoundLaws.{found_by, none_found, found_pushed, found_each}
use Rattle.label_binding.proofs.places.places_as_listed.Goals as goal

pub loop-label-init : goal.loop-label-init
loop-label-init c = none_found c.args.bins.now c.args.labels.now c.in_ok-places.places.items c.in_ok-places.ensures.items

pub loop-label-preserved : goal.loop-label-preserved
loop-label-preserved c =
    found_pushed c.args.bins.now c.args.labels.now c.loop-label.places.items _ c.loop-label.label-index _ c.bound_shape.result c.loop-label-test.true
    (found_by c.args.bins.now (get_or c.args.labels.now c.loop-label.label-index _) c.label_anchor.result c.bound_shape.result c.label_anchor.ensures c.bound_shape.ensures) c.in_ok-push.ensures.items c.loop-label.invariant

pub returns : goal.returns
returns c = found_each c.args.bins.now c.args.labels.now c.loop-label.label-index c.loop-label.places.items c.loop-label.auto.label-index-end c.loop-label-test.false c.loop-label.invariant
