use Rattle.std.proofs.Common.{arith}
use Rattle.std.proofs.lemmas.Int.{ints, to_z-of_z}
use Rattle.tile_checker.proofs.frame.Frame.around.Goals as goal

pub invariant_of-result : goal.invariant_of-result
invariant_of-result c = record {
  wide = omega (arith, ints);
  tall = omega (arith, ints);
  narrow = omega (arith, ints);
  flat = omega (arith, ints);
  near_x = record { above = omega (arith, ints); below = omega (arith, ints) };
  near_y = record { above = omega (arith, ints); below = omega (arith, ints) };
}

pub returns : goal.returns
returns c = record {
  width = grind (arith, to_z-of_z);
  height = grind (arith, to_z-of_z);
  low_x = omega (arith, ints);
  low_y = omega (arith, ints);
  high_x = omega (arith, ints);
  high_y = omega (arith, ints);
}
