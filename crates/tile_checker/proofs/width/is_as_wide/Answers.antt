use Rattle.std.proofs.Common.{arith, refl}
use Rattle.std.proofs.lemmas.Int.{ints}
use Rattle.tile_checker.proofs.width.is_as_wide.Goals as goal

pub returns-then-rect-min : goal.returns-then-rect-min
returns-then-rect-min c = (λ yes. absurd cc, λ w. let wide = w.wide in absurd (omega (arith, ints)))

pub returns-then-rect-min-2 : goal.returns-then-rect-min-2
returns-then-rect-min-2 c = (λ yes. absurd cc, λ w. let tall = w.tall in absurd (omega (arith, ints)))

pub returns : goal.returns
returns c = (λ yes. record { wide = omega (arith, ints); tall = omega (arith, ints) }, λ w. refl)
