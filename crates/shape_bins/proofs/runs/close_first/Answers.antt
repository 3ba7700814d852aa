use Rattle.shape_bins.proofs.RunLaws.{first_filled, rest_filled}
use Rattle.shape_bins.proofs.runs.close_first.Goals as goal

pub returns : goal.returns
returns c = λ shapes fills.
    let first = first_filled shapes c.args.growing.now.items c.pop_front.new.self.items c.args.ended.now.items c.in-Some.first c.in-Some.ensures.items fills in
    (rest_filled shapes c.args.growing.now.items c.pop_front.new.self.items c.args.ended.now.items c.in-Some.first c.in-Some.ensures.items fills, c.in_ok-keep.ensures shapes first fills.1)
