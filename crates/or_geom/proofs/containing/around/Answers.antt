use Rattle.std.proofs.Common.{arith}
use Rattle.std.proofs.lemmas.Int.{to_z-of_z}
use Rattle.or_geom.proofs.containing.around.Goals as goal

pub returns : goal.returns
returns c = record { x1 = grind (arith, to_z-of_z); y1 = grind (arith, to_z-of_z); x2 = grind (arith, to_z-of_z); y2 = grind (arith, to_z-of_z) }
