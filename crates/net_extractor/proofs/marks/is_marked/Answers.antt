use Rattle.std.proofs.Common.{get_or, arith}
use Rattle.std.proofs.lemmas.Option.{slice_get-get_or}
use Rattle.net_extractor.proofs.MarkLaws.{mark_set, marks_kept, node_of, node_one_set}
use Rattle.net_extractor.proofs.marks.is_marked.Goals as goal

pub returns-then-marks-at-clause-one : goal.returns-then-marks-at-clause-one
returns-then-marks-at-clause-one c = λ yes. c.requires.sets.marked.each c.args.at c.if-marks-at.true

pub bounds-marks-at-else-forest-at-eq1 : goal.bounds-marks-at-else-forest-at-eq1
bounds-marks-at-else-forest-at-eq1 c =
    let n = node_of c.args.forest c.args.at c.index-forest-at.result c.requires.sets.forest c.requires.inside in
    omega (arith, n.within, n.counted, c.if-forest-at-eq1.false, c.requires.sets.marked.sized)

pub returns-clause-marks : goal.returns-clause-marks
returns-clause-marks c = mark_set c.args.forest c.is_inner_one_set-one.new.above c.args.marks.now c.args.at c.is_inner_one_set-one.result c.requires.inside
    (λ e. node_one_set c.args.forest c.is_inner_one_set-one.new.above c.args.at c.index-forest-at.result c.requires.inside
    (c.is_inner_one_set-one.ensures.one e (get_or c.args.forest.nodes.now c.args.at c.index-forest-at.result) (slice_get-get_or c.args.forest.nodes.now c.args.at c.index-forest-at.result c.requires.inside) c.if-forest-at-eq1.false))
    (marks_kept c.args.forest c.args.above.now c.is_inner_one_set-one.new.above c.args.marks.now c.is_inner_one_set-one.ensures.alike.kept c.requires.sets.marked)

pub returns-clause-one : goal.returns-clause-one
returns-clause-one c = λ e. node_one_set c.args.forest c.is_inner_one_set-one.new.above c.args.at c.index-forest-at.result c.requires.inside
    (c.is_inner_one_set-one.ensures.one e (get_or c.args.forest.nodes.now c.args.at c.index-forest-at.result) (slice_get-get_or c.args.forest.nodes.now c.args.at c.index-forest-at.result c.requires.inside) c.if-forest-at-eq1.false)
