-- One box.
use Rattle.std.proofs.Common.{w64, arith}
use Rattle.std.proofs.lemmas.Int.{ints, to_z-of_z}
use Rattle.floorplan.proofs.BarLaws.{box_as}
use Rattle.floorplan.proofs.supplies.add_trunk.Goals as goal

pub returns : goal.returns
returns c =
    let w = c.requires.sizes.width in
    let x = c.requires.room in
    box_as _ _ _ _ _ _ _ _ _ _ _ c.in_ok-add_box.ensures (omega (arith, ints, x.above, x.below)) (omega (arith, ints)) (omega (arith, ints, x.above, x.below, w.from, w.to)) (to_z-of_z w64 c.args.upper c.ranges.upper)
