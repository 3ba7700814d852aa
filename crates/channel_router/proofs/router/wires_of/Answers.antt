-- The shapes of the nets.
use Rattle.channel_router.proofs.RouteLaws.{all_wires, forward, near_intervals}
use Rattle.channel_router.proofs.WireLaws.{kept}
use Rattle.channel_router.proofs.router.wires_of.Goals as goal

pub add_trunks-requires-clause-near_intervals : goal.add_trunks-requires-clause-near_intervals
add_trunks-requires-clause-near_intervals c = near_intervals c.args.ch.now c.args.intervals.now c.requires.channel c.requires.intervals

pub add_trunks-requires-clause-forward : goal.add_trunks-requires-clause-forward
add_trunks-requires-clause-forward c = forward c.args.ch.now c.args.intervals.now c.requires.intervals

pub returns : goal.returns
returns c =
    let low = kept c.args.ch.now.low c.requires.channel.low in
    let trunks = rw low at c.in_ok-add_trunks.ensures in
    let tops = rw (low, c.as_slice.ensures) at c.in_ok-add_top.ensures in
    let bottoms = rw (low, c.as_slice-2.ensures) at c.in_ok-add_bottom.ensures in
    all_wires c.args.ch.now c.args.wire.now c.args.intervals.now c.args.track.now c.args.tracks _ _ _ _ c.new-shapes.ensures.items c.requires.each trunks tops bottoms
