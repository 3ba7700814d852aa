-- The cut's corners.
use Rattle.std.proofs.Common.{refl, arith}
use Rattle.std.proofs.lemmas.Int.{ints}
use Rattle.wire_drawing.proofs.DrawingLaws.{twice_margin}
use Rattle.wire_drawing.proofs.route.via.Goals as goal

pub returns : goal.returns
returns c =
    let halves = twice_margin c.args.wire.now c.requires.sizes in
    let is = c.margin-margin.ensures in
    let width = c.requires.sizes.width in
    let cut = c.requires.sizes.cut in
    record {
      on = refl;
      left = omega (arith, ints, is, halves, width, cut, c.requires.room_x);
      low = omega (arith, ints, is, halves, width, cut, c.requires.room_y);
      right = omega (arith, ints, is, halves, width, cut, c.requires.room_x);
      high = omega (arith, ints, is, halves, width, cut, c.requires.room_y);
    }
