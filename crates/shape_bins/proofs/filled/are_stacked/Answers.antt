use Rattle.std.proofs.Common.{refl, arith}
use Rattle.std.proofs.lemmas.Int.{ints}
use Rattle.shape_bins.proofs.filled.are_stacked.Goals as goal

pub returns : goal.returns
returns c = (λ yes. record { left = omega (arith, ints); right = omega (arith, ints); over = omega (arith, ints); under = omega (arith, ints) }, λ m. refl)
