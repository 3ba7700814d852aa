use Rattle.std.proofs.Common.{arith}
use Rattle.std.proofs.lemmas.Int.{to_z-of_z}
use Rattle.gds_stream.proofs.RunLaws.{widened}
use Rattle.gds_stream.proofs.bounds.with_point.Goals as goal

pub returns : goal.returns
returns c =
    widened c.args.bounds c.args.point _ (grind (arith, to_z-of_z)) (grind (arith, to_z-of_z))
    (grind (arith, to_z-of_z)) (grind (arith, to_z-of_z))
