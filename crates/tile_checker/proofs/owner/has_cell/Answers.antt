use Rattle.std.proofs.Common.{arith, refl}
use Rattle.std.proofs.lemmas.Int.{ints}
use Rattle.tile_checker.proofs.owner.has_cell.Goals as goal

pub returns-then-y-tile-2 : goal.returns-then-y-tile-2
returns-then-y-tile-2 c = (λ t. record { left = omega (arith, ints); right = omega (arith, ints); low = omega (arith, ints); high = omega (arith, ints) }, λ h. refl)
