use Rattle.std.proofs.Common.{arith}
use Rattle.std.proofs.lemmas.Int.{ints}
use Rattle.tile_checker.proofs.owner.has_corner.Goals as goal

pub returns : goal.returns
returns c = (
  λ t. let h = c.has_cell.ensures.0 t in record { left = omega (arith, ints, h.left); right = omega (arith, ints, h.right); low = omega (arith, ints, h.low); high = omega (arith, ints, h.high) },
  λ k. c.has_cell.ensures.1 (record { left = omega (arith, ints, k.left); right = omega (arith, ints, k.right); low = omega (arith, ints, k.low); high = omega (arith, ints, k.high) }),
)
