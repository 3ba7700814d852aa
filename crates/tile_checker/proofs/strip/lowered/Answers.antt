use Rattle.std.proofs.Common.{arith}
use Rattle.std.proofs.lemmas.Int.{to_z-of_z}
use Rattle.tile_checker.proofs.strip.lowered.Goals as goal

pub returns : goal.returns
returns c = record { left = grind (arith, to_z-of_z); right = grind (arith, to_z-of_z); bottom = grind (arith, to_z-of_z); top = grind (arith, to_z-of_z) }
