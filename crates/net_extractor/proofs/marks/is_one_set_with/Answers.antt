use Rattle.std.proofs.Common.{get_or}
use Rattle.std.proofs.lemmas.Option.{slice_get-get_or}
use Rattle.net_extractor.proofs.MarkLaws.{marks_kept, node_of, one_set_kept, run_with_node}
use Rattle.net_extractor.proofs.marks.is_one_set_with.Goals as goal

pub is_run_with_first-requires-clause-over : goal.is_run_with_first-requires-clause-over
is_run_with_first-requires-clause-over c =
    let n = node_of c.args.forest c.args.at c.index-forest-at.result c.requires.sets.forest c.requires.inside in
    n.over

pub returns-then-is_marked-clause-marks : goal.returns-then-is_marked-clause-marks
returns-then-is_marked-clause-marks c = marks_kept c.args.forest c.is_marked.new.above c.is_run_with_first.new.above c.is_marked.new.marks c.is_run_with_first.ensures.alike.kept c.is_marked.ensures.marks

pub returns-then-is_marked-clause-one : goal.returns-then-is_marked-clause-one
returns-then-is_marked-clause-one c = λ yes.
    let nodes = c.args.forest.nodes.now in
    let there = slice_get-get_or nodes c.args.at c.index-forest-at.result c.requires.inside in
    run_with_node c.args.forest c.args.run.now c.is_run_with_first.new.above c.args.at (get_or nodes c.args.at c.index-forest-at.result) there
    (λ node is. one_set_kept c.args.forest.places.now c.is_marked.new.above c.is_run_with_first.new.above node.first node.end c.is_run_with_first.ensures.alike.kept (c.is_marked.ensures.one c.if-is_marked.true node is))
    (c.is_run_with_first.ensures.first yes)
