use Rattle.std.proofs.Common.{get_or, refl}
use Rattle.drawn_devices.proofs.OverLaws.{item_among, all_more, all_end}
use Rattle.drawn_devices.proofs.gates.have_net_if_over.Goals as goal

pub has_net_if_over-requires-clause-near : goal.has_net_if_over-requires-clause-near
has_net_if_over-requires-clause-near c = c.requires.near (get_or c.args.near.now c.loop-index.index-index 0) (item_among c.args.near.now c.loop-index.index-index c.loop-index-test.true)

pub returns-then-not-has_net_if_over : goal.returns-then-not-has_net_if_over
returns-then-not-has_net_if_over c =
    (λ yes. absurd cc, λ all. c.if-not-has_net_if_over.ensures.1 (all (get_or c.args.near.now c.loop-index.index-index 0) (item_among c.args.near.now c.loop-index.index-index c.loop-index-test.true)))

pub loop-index-preserved : goal.loop-index-preserved
loop-index-preserved c =
    all_more c.args.bins.now c.args.nets.now c.args._layer c.args.area c.args.net c.args.near.now c.loop-index.index-index c.loop-index-test.true (c.if-not-has_net_if_over.ensures.0 refl) c.loop-index.invariant

pub returns : goal.returns
returns c = (λ yes. all_end c.args.bins.now c.args.nets.now c.args._layer c.args.area c.args.net c.args.near.now c.loop-index.index-index c.loop-index-test.false c.loop-index.invariant, λ all. refl)
