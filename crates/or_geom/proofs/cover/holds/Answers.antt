use Rattle.std.proofs.Common.{arith, refl}
use Rattle.std.proofs.lemmas.Int.{ints}
use Rattle.or_geom.proofs.cover.holds.Goals as goal

pub returns-then-cell-rect-3 : goal.returns-then-cell-rect-3
returns-then-cell-rect-3 c = (λ t. record { left = omega (arith, ints); right = omega (arith, ints); low = omega (arith, ints); high = omega (arith, ints) }, λ h. refl)
