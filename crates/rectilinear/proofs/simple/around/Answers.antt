use Rattle.std.proofs.Common.{arith}
use Rattle.std.proofs.lemmas.Int.{to_z-of_z}
use Rattle.rectilinear.proofs.SimpleLaws.{around_law}
use Rattle.rectilinear.proofs.simple.around.Goals as goal

pub returns : goal.returns
returns c = around_law c.args.e c.args.f _ (grind (arith, to_z-of_z)) (grind (arith, to_z-of_z)) (grind (arith, to_z-of_z)) (grind (arith, to_z-of_z))
