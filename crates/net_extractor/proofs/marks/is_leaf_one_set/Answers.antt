use Rattle.net_extractor.proofs.MarkLaws.{one_set_with}
use Rattle.net_extractor.proofs.marks.is_leaf_one_set.Goals as goal

pub returns-in-Some-clause-one : goal.returns-in-Some-clause-one
returns-in-Some-clause-one c = λ yes. one_set_with c.args.forest.places.now c.is_leaf_with.new.above c.in-Some.top c.args.leaf.first c.args.leaf.end (c.is_leaf_with.ensures.with_top yes)
