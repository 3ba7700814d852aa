use Rattle.std.proofs.Common.{arith}
use Rattle.std.proofs.lemmas.Int.{to_z-of_z}
use Rattle.rectilinear.proofs.SimpleLaws.{common_law}
use Rattle.rectilinear.proofs.simple.common.Goals as goal

pub returns : goal.returns
returns c = common_law c.args.e c.args.f _ (grind (arith, to_z-of_z)) (grind (arith, to_z-of_z)) (grind (arith, to_z-of_z)) (grind (arith, to_z-of_z))
