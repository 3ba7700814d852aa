use Rattle.std.proofs.Common.{refl, arith}
use Rattle.std.proofs.lemmas.Int.{ints}
use Rattle.shape_bins.proofs.filled.are_beside.Goals as goal

pub returns : goal.returns
returns c = (λ yes. record { low = omega (arith, ints); high = omega (arith, ints); after = omega (arith, ints); before = omega (arith, ints) }, λ m. refl)
