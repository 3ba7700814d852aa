-- The bar of a row that has one.
use Rattle.std.proofs.Common.{◌≡◌, ◌%◌, ◌*◌, pos, ◌+ℤ◌, arith}
use Rattle.std.proofs.lemmas.Int.{ints}
use Rattle.macro_layout.specs.Wires.{IsBar}
use Rattle.floorplan.proofs.BarLaws.{adds_where, bar_as}
use Rattle.floorplan.proofs.shapes.add_row_bar.Goals as goal

pub returns : goal.returns
returns c =
    let x = c.requires.room_x in
    let y = c.requires.low in
    let far = c.extent.ensures.value in
    let few = c.extent.ensures.few in
    adds_where (c.args.row % 2 ≡ c.args.odd) (IsBar c.args.wire.now c.args.trunk c.args.from.x (c.args.from.y +ℤ pos (c.args.row * c.args.height))) _ _ c.if-row-odd.false
    (bar_as c.args.wire.now _ _ _ _ _ _ _ _ c.in_ok-add_bar.ensures (omega (arith, ints, x.above, x.below)) (omega (arith, ints)) (omega (arith, ints, y.above, y.below, far, few)))
