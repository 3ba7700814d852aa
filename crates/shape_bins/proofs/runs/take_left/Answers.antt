use Rattle.shape_bins.proofs.RunLaws.{first_filled, rest_filled, again_filled}
use Rattle.shape_bins.proofs.runs.take_left.Goals as goal

pub returns-in-Some-longer : goal.returns-in-Some-longer
returns-in-Some-longer c = λ shapes there fills.
    let first = first_filled shapes c.args.growing.now.items c.pop_front.new.self.items c.args.ended.now.items c.in-Some.first c.in-Some.ensures.items fills in
    ((rest_filled shapes c.args.growing.now.items c.pop_front.new.self.items c.args.ended.now.items c.in-Some.first c.in-Some.ensures.items fills, fills.1), c.in-Some-longer.ensures shapes there first)

pub returns-in_ok-keep : goal.returns-in_ok-keep
returns-in_ok-keep c = λ shapes there fills.
    let first = first_filled shapes c.args.growing.now.items c.pop_front.new.self.items c.args.ended.now.items c.in-Some.first c.in-Some.ensures.items fills in
    ((rest_filled shapes c.args.growing.now.items c.pop_front.new.self.items c.args.ended.now.items c.in-Some.first c.in-Some.ensures.items fills, c.in_ok-keep.ensures shapes first fills.1), tt)

pub returns-in_ok-push_front : goal.returns-in_ok-push_front
returns-in_ok-push_front c = λ shapes there fills.
    (again_filled shapes c.args.growing.now.items c.pop_front.new.self.items c.push_front.new.self.items c.args.ended.now.items c.in-Some.first c.in-Some.ensures.items c.in_ok-push_front.ensures.items fills, tt)
