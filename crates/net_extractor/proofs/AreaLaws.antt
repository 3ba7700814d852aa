-- Boxes that overlap share the unit cell at the greater left and the greater lower side.
use Rattle.std.proofs.Common.{◌<ℤ◌, arith}
use Rattle.std.specs.Int.{int_max}
use Rattle.std.proofs.lemmas.Int.{ints, clamps}
use Rattle.or_geom.specs.declared.shape.Rect.{Rect}
use Rattle.shape_bins.specs.Meets.{Overlap}
use Rattle.tech_rules.specs.Touch.{ShareArea}

pub overlap_shares : (a b : Rect) → b.x1 <ℤ a.x2 → a.x1 <ℤ b.x2 → b.y1 <ℤ a.y2 → a.y1 <ℤ b.y2 → ShareArea a b
overlap_shares a b right left high low =
    let wide_a : a.x1 <ℤ a.x2 = a.wide in
    let tall_a : a.y1 <ℤ a.y2 = a.tall in
    let wide_b : b.x1 <ℤ b.x2 = b.wide in
    let tall_b : b.y1 <ℤ b.y2 = b.tall in
    record {
      x = int_max a.x1 b.x1;
      y = int_max a.y1 b.y1;
      in_a = record { left = omega (arith, ints, clamps); right = omega (arith, ints, clamps); low = omega (arith, ints, clamps); high = omega (arith, ints, clamps) };
      in_b = record { left = omega (arith, ints, clamps); right = omega (arith, ints, clamps); low = omega (arith, ints, clamps); high = omega (arith, ints, clamps) };
    }

pub shares_overlap : (a b : Rect) → ShareArea a b → Overlap a b
shares_overlap a b s = record {
  left = omega (arith, ints, s.in_a.left, s.in_b.right);
  right = omega (arith, ints, s.in_b.left, s.in_a.right);
  low = omega (arith, ints, s.in_a.low, s.in_b.high);
  high = omega (arith, ints, s.in_b.low, s.in_a.high);
}
