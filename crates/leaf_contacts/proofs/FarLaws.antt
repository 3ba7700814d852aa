-- Points within a distance, shapes that were moved, and rectangles that share area.
use Rattle.std.proofs.Common.{◌≡◌, ℕ, ◌^◌, ◌≤◌, ◌<ℤ◌, List, [], ◌∷◌, sym, ◌∙◌, arith}
use Rattle.std.specs.Int.{int_max}
use Rattle.std.specs.List.{AllByRecursion}
use Rattle.std.proofs.lemmas.Int.{ints, clamps}
use Rattle.or_geom.specs.declared.shape.Point.{Point}
use Rattle.or_geom.specs.declared.shape.Rect.{Rect}
use Rattle.or_geom.specs.declared.shape.Shape.{Shape}
use Rattle.or_geom.specs.declared.place.Place.{Place}
use Rattle.or_geom.specs.Place.{IsNearPoint, IsWithin, high_corner, low_corner, placed}
use Rattle.or_geom.specs.Reachable.{AreReachable}
use Rattle.or_geom.proofs.PlaceLaws.{image_once}
use Rattle.tech_rules.specs.Touch.{ShareArea}
use Rattle.element_drawing.specs.OwnShapes.{IsShapeWithin}
use Rattle.cell_hierarchy.specs.FlatSet.{IsMoved}
use Rattle.shape_bins.specs.Meets.{Overlap}

pub further : (m n : ℕ) (p : Point) → m ≤ n → IsWithin m p → IsWithin n p
further m n p le w = record { x_above = omega (arith, ints); x_below = omega (arith, ints); y_above = omega (arith, ints); y_below = omega (arith, ints) }

pub near_point : (p : Point) → IsWithin (2 ^ 39) p → IsNearPoint p
near_point p w = record { x = record { above = omega (arith, ints); below = omega (arith, ints) }; y = record { above = omega (arith, ints); below = omega (arith, ints) } }

-- shapes within 2^32 are reachable
pub reachable_shapes : (ss : List Shape) → AllByRecursion (IsShapeWithin (2 ^ 32)) ss → AreReachable ss
reachable_shapes [] all = tt
reachable_shapes (s ∷ ss) all =
    let low = near_point (low_corner s.rect) (further (2 ^ 32) (2 ^ 39) (low_corner s.rect) (omega arith) all.0.low) in
    let high = near_point (high_corner s.rect) (further (2 ^ 32) (2 ^ 39) (high_corner s.rect) (omega arith) all.0.high) in
    (record { x1 = low.x; y1 = low.y; x2 = high.x; y2 = high.y }, reachable_shapes ss all.1)

pub moved_once : (place : Place) (inner s t : Shape) → IsMoved place inner s → IsMoved place inner t → s ≡ t
moved_once place inner s t a b =
    let layer = a.layer ∙ sym b.layer in
    let rect = image_once (placed place) inner.rect s.rect t.rect a.image b.image in
    λ i. record { layer = layer i; rect = rect i }

pub overlap_shares : (a b : Rect) → b.x1 <ℤ a.x2 → a.x1 <ℤ b.x2 → b.y1 <ℤ a.y2 → a.y1 <ℤ b.y2 → ShareArea a b
overlap_shares a b right left high low =
    let wide_a : a.x1 <ℤ a.x2 = a.wide in
    let tall_a : a.y1 <ℤ a.y2 = a.tall in
    let wide_b : b.x1 <ℤ b.x2 = b.wide in
    let tall_b : b.y1 <ℤ b.y2 = b.tall in
    record {
      x = int_max a.x1 b.x1;
      y = int_max a.y1 b.y1;
      in_a = record { left = omega (arith, ints, clamps); right = omega (arith, ints, clamps); low = omega (arith, ints, clamps); high = omega (arith, ints, clamps) };
      in_b = record { left = omega (arith, ints, clamps); right = omega (arith, ints, clamps); low = omega (arith, ints, clamps); high = omega (arith, ints, clamps) };
    }

pub shares_overlap : (a b : Rect) → ShareArea a b → Overlap a b
shares_overlap a b s = record {
  left = omega (arith, ints, s.in_a.left, s.in_b.right);
  right = omega (arith, ints, s.in_b.left, s.in_a.right);
  low = omega (arith, ints, s.in_a.low, s.in_b.high);
  high = omega (arith, ints, s.in_b.low, s.in_a.high);
}
