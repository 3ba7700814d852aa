use Rattle.std.proofs.Common.{refl, sym}
use Rattle.std.proofs.lemmas.Option.{slice_get_read}
use Rattle.or_geom.proofs.ShapeOrderLaws.{reachable_at}
use Rattle.leaf_contacts.proofs.StandMarkLaws.{stand_begins, stand_more, stand_ends}
use Rattle.leaf_contacts.proofs.marks.mark_stand.Goals as goal

pub loop-number-init : goal.loop-number-init
loop-number-init c = stand_begins c.args.own.now c.args.shapes.now c.args.stand.now c.args.marks.now

pub apply-requires-clause-rect : goal.apply-requires-clause-rect
apply-requires-clause-rect c = reachable_at c.args.own.now c.loop-number.number c.index-own-number.result c.requires.own c.loop-number-test.true c.index-own-number.is

pub place_of-place-requires-clause-listed : goal.place_of-place-requires-clause-listed
place_of-place-requires-clause-listed c =
    c.requires.listed c.index-own-number.result _ (c.loop-number.number, c.loop-number-test.true, sym c.index-own-number.is) (record { layer = refl; image = c.apply.ensures })

pub loop-number-preserved : goal.loop-number-preserved
loop-number-preserved c =
    stand_more c.args.own.now c.args.shapes.now c.args.stand.now c.args.marks.now c.loop-number.marks _ c.loop-number.number c.index-own-number.result _
    (slice_get_read c.args.own.now _ c.loop-number.number c.index-own-number.result refl c.loop-number-test.true c.index-own-number.is) (record { layer = refl; image = c.apply.ensures }) c.mark_shape.ensures c.loop-number.invariant

pub returns : goal.returns
returns c = stand_ends c.args.own.now c.args.shapes.now c.args.stand.now c.args.marks.now c.loop-number.marks c.loop-number.number c.loop-number-test.false c.loop-number.invariant
