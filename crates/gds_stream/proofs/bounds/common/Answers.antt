use Rattle.std.proofs.Common.{arith}
use Rattle.std.proofs.lemmas.Int.{to_z-of_z}
use Rattle.rectilinear.proofs.SimpleLaws.{common_law}
use Rattle.gds_stream.proofs.bounds.common.Goals as goal

pub returns : goal.returns
returns c =
    common_law _ _ _ (grind (arith, to_z-of_z)) (grind (arith, to_z-of_z)) (grind (arith, to_z-of_z))
    (grind (arith, to_z-of_z))
