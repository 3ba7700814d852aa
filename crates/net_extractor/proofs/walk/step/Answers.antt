use Rattle.std.proofs.Common.{get_or, arith}
use Rattle.std.proofs.lemmas.Option.{slice_get-get_or}
use Rattle.net_extractor.specs.Marks.{IsPairBetween, IsSearched}
use Rattle.net_extractor.proofs.JoinLaws.{alike_joins, joins_alike}
use Rattle.net_extractor.proofs.MarkLaws.{mark_set, marks_kept, node_of, node_one_set}
use Rattle.net_extractor.proofs.PairLaws.{run_within}
use Rattle.net_extractor.proofs.SearchLaws.{step_behind, step_passed, step_together, step_inner}
use Rattle.net_extractor.proofs.walk.step.Goals as goal

pub overflow_add-behind : goal.overflow_add-behind
overflow_add-behind c =
    let n = node_of c.args.forest c.args.at c.index-forest-at.result c.requires.sets.forest c.requires.inside in
    omega (arith, n.within, c.requires.few)

pub returns-then-not-is_wanted : goal.returns-then-not-is_wanted
returns-then-not-is_wanted c =
    let n = node_of c.args.forest c.args.at c.index-forest-at.result c.requires.sets.forest c.requires.inside in
    let node = get_or c.args.forest.nodes.now c.args.at c.index-forest-at.result in
    step_passed c.args.forest c.args.search c.requires.run c.args.at node n c.args.above.now c.args.marks.now (λ near. let yes = c.is_wanted.ensures.1 near in let no = c.if-not-is_wanted.true in absurd cc) c.requires.sets.falls c.requires.sets.marked

pub is_one_set_with-requires-clause-run : goal.is_one_set_with-requires-clause-run
is_one_set_with-requires-clause-run c = run_within c.args.forest.shapes.now c.args.search.run c.args.search.own.now _ c.requires.sets.sized c.requires.run

pub returns-then-is_one_set_with : goal.returns-then-is_one_set_with
returns-then-is_one_set_with c =
    let n = node_of c.args.forest c.args.at c.index-forest-at.result c.requires.sets.forest c.requires.inside in
    let node = get_or c.args.forest.nodes.now c.args.at c.index-forest-at.result in
    step_together c.args.forest c.args.search c.requires.run c.args.at node n c.args.above.now c.is_one_set_with.new.above c.is_one_set_with.new.marks (slice_get-get_or c.args.forest.nodes.now c.args.at c.index-forest-at.result c.requires.inside)
    c.is_one_set_with.ensures.alike (c.is_one_set_with.ensures.one c.if-is_one_set_with.true) c.is_one_set_with.ensures.marks

pub join_leaf-requires-clause-over : goal.join_leaf-requires-clause-over
join_leaf-requires-clause-over c =
    let n = node_of c.args.forest c.args.at c.index-forest-at.result c.requires.sets.forest c.requires.inside in
    n.over

pub is_leaf_one_set-requires-clause-over : goal.is_leaf_one_set-requires-clause-over
is_leaf_one_set-requires-clause-over c =
    let n = node_of c.args.forest c.args.at c.index-forest-at.result c.requires.sets.forest c.requires.inside in
    n.over

pub returns-then-node-eq1 : goal.returns-then-node-eq1
returns-then-node-eq1 c =
    let n = node_of c.args.forest c.args.at c.index-forest-at.result c.requires.sets.forest c.requires.inside in
    let node = get_or c.args.forest.nodes.now c.args.at c.index-forest-at.result in
    let P = IsPairBetween (IsSearched c.args.forest c.args.search) c.args.forest.places.now node.first node.end in
    let before = c.is_one_set_with.new.above in
    let joined = c.join_leaf.new.above in
    let after = c.is_leaf_one_set.new.above in
    let marks = c.is_one_set_with.new.marks in
    step_behind c.args.forest c.args.search c.requires.run c.args.at node n c.args.above.now after _
    (alike_joins P c.args.above.now before after c.is_one_set_with.ensures.alike (joins_alike P before joined after c.in_ok-join_leaf.ensures c.is_leaf_one_set.ensures.alike))
    (mark_set c.args.forest after marks c.args.at c.is_leaf_one_set.result c.requires.inside (λ e. node_one_set c.args.forest after c.args.at c.index-forest-at.result c.requires.inside (c.is_leaf_one_set.ensures.one e))
    (marks_kept c.args.forest joined after marks c.is_leaf_one_set.ensures.alike.kept (marks_kept c.args.forest before joined marks c.in_ok-join_leaf.ensures.kept c.is_one_set_with.ensures.marks)))

pub returns : goal.returns
returns c =
    let n = node_of c.args.forest c.args.at c.index-forest-at.result c.requires.sets.forest c.requires.inside in
    let node = get_or c.args.forest.nodes.now c.args.at c.index-forest-at.result in
    step_inner c.args.forest c.args.search c.requires.run c.args.at node n c.args.above.now c.is_one_set_with.new.above c.is_one_set_with.new.marks c.if-node-eq1.false c.is_one_set_with.ensures.alike c.is_one_set_with.ensures.marks
