use Rattle.drawn_devices.proofs.OverLaws.{one_number, none_of_all}
use Rattle.drawn_devices.proofs.gates.net_of_all.Goals as goal

pub returns-in_default : goal.returns-in_default
returns-in_default c = λ other. none_of_all c.args.bins.now c.args.nets.now c.args.layer other c.args.area c.in_default.ensures

pub returns-then-branch : goal.returns-then-branch
returns-then-branch c = (c.in-Some.ensures, c.in_ok-is_net_of_all.ensures.0 c.if-branch.true)

pub returns : goal.returns
returns c = λ other. one_number c.args.bins.now c.args.nets.now c.args.layer c.in-Some.net other c.args.area c.in-Some.ensures (λ all. let yes = c.in_ok-is_net_of_all.ensures.1 all in let no = c.if-branch.false in absurd cc)
