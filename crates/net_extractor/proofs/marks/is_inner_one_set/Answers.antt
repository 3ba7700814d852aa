use Rattle.net_extractor.proofs.MarkLaws.{marked_alike, node_of, one_set_with}
use Rattle.net_extractor.proofs.marks.is_inner_one_set.Goals as goal

pub first_root-requires-clause-over : goal.first_root-requires-clause-over
first_root-requires-clause-over c =
    let n = node_of c.args.forest c.args.at c.index-forest-at.result c.requires.sets.forest c.requires.inside in
    n.over

pub are_children_with-requires-clause-sets : goal.are_children_with-requires-clause-sets
are_children_with-requires-clause-sets c = marked_alike c.args.forest c.args.above.now c.first_root.new.above c.args.marks.now c.first_root.ensures.alike c.requires.sets

pub returns-in-Some-clause-one : goal.returns-in-Some-clause-one
returns-in-Some-clause-one c = λ yes node is many. one_set_with c.args.forest.places.now c.are_children_with.new.above c.in-Some.top node.first node.end (c.are_children_with.ensures.with_top yes node is many)
