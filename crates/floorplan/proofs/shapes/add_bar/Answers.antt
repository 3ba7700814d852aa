-- A box and a cut.
use Rattle.std.proofs.Common.{arith}
use Rattle.std.proofs.lemmas.Int.{ints}
use Rattle.floorplan.proofs.BarLaws.{bar_adds, box_as, via_adds}
use Rattle.floorplan.proofs.shapes.add_bar.Goals as goal

pub returns : goal.returns
returns c =
    let w = c.requires.sizes.width in
    let x = c.requires.room_x in
    let y = c.requires.room_y in
    bar_adds c.args.wire.now c.args.trunk c.args.from.x c.args.from.y _ _ _
    (box_as _ _ _ _ _ _ _ _ _ _ _ c.in_ok-add_box.ensures (omega (arith, ints)) (omega (arith, ints, y.above, y.below)) (omega (arith, ints, x.above, x.below, w.from, w.to)) (omega (arith, ints, y.above, y.below, w.from, w.to)))
    (via_adds c.args.wire.now _ _ _ _ _ _ _ c.in_ok-push.ensures.items c.via.ensures (omega (arith, ints, x.above, x.below)) (omega (arith, ints, y.above, y.below)))
