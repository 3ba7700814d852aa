use Rattle.drawn_devices.proofs.OverLaws.{none_over, net_within, net_found}
use Rattle.drawn_devices.proofs.gates.net_over.Goals as goal

pub returns-in_default : goal.returns-in_default
returns-in_default c = none_over c.args.bins.now c.args.layer c.args.area c.in_default.ensures

pub net_at-requires : goal.net_at-requires
net_at-requires c = net_within c.args.bins.now c.args.nets.now c.args.layer c.in-Some.index c.args.area c.requires c.in-Some.ensures

pub returns : goal.returns
returns c = net_found c.args.bins.now c.args.nets.now c.args.layer c.in-Some.index c.net_at.result c.args.area c.in-Some.ensures c.net_at.ensures
