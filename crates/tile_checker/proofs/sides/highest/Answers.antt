use Rattle.std.proofs.Common.{arith}
use Rattle.std.proofs.lemmas.Int.{ints, clamps}
use Rattle.tile_checker.proofs.sides.highest.Goals as goal

pub returns-clause-y : goal.returns-clause-y
returns-clause-y c = let value = c.min.ensures.value in omega (arith, ints, clamps, value)
