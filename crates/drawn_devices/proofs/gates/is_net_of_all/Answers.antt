use Rattle.drawn_devices.proofs.OverLaws.{listed_near, near_is_all}
use Rattle.drawn_devices.proofs.gates.is_net_of_all.Goals as goal

pub have_net_if_over-requires-clause-near : goal.have_net_if_over-requires-clause-near
have_net_if_over-requires-clause-near c = listed_near c.args.bins.now c.args.layer c.args.area c.new-near.result.items c.add_near.new.out.items c.deref.result.now c.new-near.ensures.items c.in_ok-add_near.ensures c.deref.ensures.value

pub returns : goal.returns
returns c =
    let law = near_is_all c.args.bins.now c.args.nets.now c.args.layer c.args.area c.args.net c.new-near.result.items c.add_near.new.out.items c.deref.result.now c.new-near.ensures.items c.in_ok-add_near.ensures c.deref.ensures.value in
    (λ yes. law.0 (c.have_net_if_over.ensures.0 yes), λ all. c.have_net_if_over.ensures.1 (law.1 all))
