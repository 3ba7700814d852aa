use Rattle.std.proofs.Common.{rules, drop, get_or, length, subst, sym, arith}
use Rattle.std.proofs.lemmas.Option.{slice_get_within}
use Rattle.or_geom.specs.Reachable.{AreReachable}
use Rattle.leaf_contacts.proofs.FarLaws.{near_point}
use Rattle.leaf_contacts.proofs.LevelLaws.{no_stand, stand_there}
use Rattle.leaf_contacts.proofs.StandMarkLaws.{marks_begin, marks_end, marks_step, stand_in, stand_shapes, summary_reachable, written_back}
use Rattle.leaf_contacts.proofs.marks.marks_of.Goals as goal

pub loop-stand-init : goal.loop-stand-init
loop-stand-init c = marks_begin c.args.tree.now c.args.shapes.now c.args.stands.now c.in_ok-marks.marks.items (c.in_ok-marks.ensures.items_if_clones_equal (λ y e. search rules))

pub summary_at-summary-requires : goal.summary_at-summary-requires
summary_at-summary-requires c =
    let stand = get_or c.args.stands.now c.loop-stand.stand-index no_stand in
    let s = stand_in c.args.tree.now c.args.shapes.now c.args.stands.now c.loop-stand.stand-index stand c.requires.stands (stand_there c.args.stands.now c.loop-stand.stand-index c.loop-stand-test.true) in
    slice_get_within c.args.tree.now.summaries.now stand.cell s.summary s.there

pub mark_stand-requires-clause-near : goal.mark_stand-requires-clause-near
mark_stand-requires-clause-near c =
    let stand = get_or c.args.stands.now c.loop-stand.stand-index no_stand in
    near_point stand.place.at (stand_in c.args.tree.now c.args.shapes.now c.args.stands.now c.loop-stand.stand-index stand c.requires.stands (stand_there c.args.stands.now c.loop-stand.stand-index c.loop-stand-test.true)).near

pub mark_stand-requires-clause-own : goal.mark_stand-requires-clause-own
mark_stand-requires-clause-own c =
    subst AreReachable (sym c.deref.ensures.value) (summary_reachable c.args.tree.now (get_or c.args.stands.now c.loop-stand.stand-index no_stand).cell c.summary_at-summary.result.now c.requires.tree c.summary_at-summary.ensures)

pub mark_stand-requires-clause-listed : goal.mark_stand-requires-clause-listed
mark_stand-requires-clause-listed c =
    let stand = get_or c.args.stands.now c.loop-stand.stand-index no_stand in
    stand_shapes c.args.tree.now c.args.shapes.now c.deref.result.now stand c.summary_at-summary.result.now
    (stand_in c.args.tree.now c.args.shapes.now c.args.stands.now c.loop-stand.stand-index stand c.requires.stands (stand_there c.args.stands.now c.loop-stand.stand-index c.loop-stand-test.true)) c.summary_at-summary.ensures c.deref.ensures.value

pub loop-stand-preserved : goal.loop-stand-preserved
loop-stand-preserved c =
    let long = c.mark_stand.auto.marks in
    let read = c.deref_mut.ensures.len in
    marks_step c.args.tree.now c.args.shapes.now c.args.stands.now c.loop-stand.stand-index (get_or c.args.stands.now c.loop-stand.stand-index no_stand) c.summary_at-summary.result.now c.deref.result.now c.deref_mut.result.now c.loop-stand.marks.items
    c.mark_stand.new.marks _ (stand_there c.args.stands.now c.loop-stand.stand-index c.loop-stand-test.true) c.summary_at-summary.ensures c.deref.ensures.value c.deref_mut.ensures.value
    (written_back c.loop-stand.marks.len c.mark_stand.new.marks (drop (length c.mark_stand.new.marks) c.loop-stand.marks.items) (omega (arith, long, read))) c.mark_stand.ensures c.loop-stand.invariant

pub returns : goal.returns
returns c = marks_end c.args.tree.now c.args.shapes.now c.args.stands.now c.loop-stand.stand-index c.loop-stand.marks.items c.loop-stand-test.false c.loop-stand.invariant
