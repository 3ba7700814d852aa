use Rattle.std.proofs.Common.{arith, refl}
use Rattle.std.proofs.lemmas.Int.{ints}
use Rattle.shape_bins.proofs.query.holds_cell.Goals as goal

pub returns : goal.returns
returns c = (λ t. record { left = omega (arith, ints); right = omega (arith, ints); low = omega (arith, ints); high = omega (arith, ints) }, λ h. refl)
