-- The rectangle around two contains both, and lies in each that contains both.
use Rattle.std.proofs.Common.{arith}
use Rattle.std.proofs.lemmas.Int.{ints, clamps}
use Rattle.or_geom.specs.declared.shape.Rect.{Rect}
use Rattle.or_geom.specs.Containing.{HoldsRect, IsAround}

pub around_first : (a b r : Rect) → IsAround a b r → HoldsRect r a
around_first a b r h = record { left = omega (arith, ints, clamps, h.x1); right = omega (arith, ints, clamps, h.x2); low = omega (arith, ints, clamps, h.y1); high = omega (arith, ints, clamps, h.y2) }

pub around_second : (a b r : Rect) → IsAround a b r → HoldsRect r b
around_second a b r h = record { left = omega (arith, ints, clamps, h.x1); right = omega (arith, ints, clamps, h.x2); low = omega (arith, ints, clamps, h.y1); high = omega (arith, ints, clamps, h.y2) }

pub around_least : (a b r outer : Rect) → IsAround a b r → HoldsRect outer a → HoldsRect outer b → HoldsRect outer r
around_least a b r outer h p q = record {
  left = omega (arith, ints, clamps, h.x1, p.left, q.left);
  right = omega (arith, ints, clamps, h.x2, p.right, q.right);
  low = omega (arith, ints, clamps, h.y1, p.low, q.low);
  high = omega (arith, ints, clamps, h.y2, p.high, q.high);
}
