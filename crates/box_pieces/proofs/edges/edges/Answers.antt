use Rattle.std.proofs.Common.{arith}
use Rattle.std.proofs.lemmas.Int.{to_z-of_z}
use Rattle.box_pieces.proofs.EdgeLaws.{edges_more, edges_end}
use Rattle.box_pieces.proofs.edges.edges.Goals as goal

pub loop-rect-preserved : goal.loop-rect-preserved
loop-rect-preserved c =
    edges_more c.args.axis c.args.area c.args.boxes.now c.loop-rect.rect-index c.rect-item.result c.span_of-room.result _ _ c.loop-rect.places.items c.add_between.new.out.items c.add_between-in-loop-rect.new.out.items c.loop-rect-test.true
    c.rect-item.is (record { room_low = c.span_of-room.ensures.low; room_high = c.span_of-room.ensures.high; taken_low = grind (arith, to_z-of_z); taken_high = grind (arith, to_z-of_z) }) c.in_ok-add_between.ensures c.in_ok-add_between-2.ensures
    c.loop-rect.invariant

pub returns : goal.returns
returns c = edges_end c.args.axis c.args.area c.args.boxes.now c.loop-rect.rect-index c.loop-rect.places.items c.loop-rect-test.false c.loop-rect.invariant
