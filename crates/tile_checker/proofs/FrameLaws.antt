-- Covered boxes of a frame are the covered boxes that hold its rectangle.
use Rattle.std.proofs.Common.{◌≡◌, List, ℤ, pos, ◌<ℤ◌, ◌+ℤ◌, subst, arith}
use Rattle.std.specs.Int.{int_max}
use Rattle.or_geom.proofs.PlaceLaws.{same_point}
use Rattle.std.proofs.lemmas.Int.{ints, clamps}
use Rattle.or_geom.specs.declared.shape.Point.{Point}
use Rattle.or_geom.specs.declared.shape.Rect.{Rect}
use Rattle.tile_checker.specs.Breaks.{HasWidth}
use Rattle.tile_checker.specs.Frame.{IsFrame, point, HasBoxAt}
use Rattle.tile_checker.specs.declared.frame.Frame.{Frame}

pub box_covers : (rects : List Rect) (f : Frame) (corner : Point) (min : ℤ) (r : Rect) → IsFrame min r f → HasBoxAt rects f corner → HasWidth rects min r
box_covers rects f corner min r frame b =
    let wide : pos 0 <ℤ f.width = f.wide in
    let tall : pos 0 <ℤ f.height = f.tall in
    record {
      box = record { x1 = corner.x; y1 = corner.y; x2 = corner.x +ℤ f.width; y2 = corner.y +ℤ f.height; wide = omega (arith, ints); tall = omega (arith, ints) };
      holds = record {
        left = omega (arith, ints, b.right, frame.high_x);
        right = omega (arith, ints, b.left, frame.low_x);
        low = omega (arith, ints, b.high, frame.high_y);
        high = omega (arith, ints, b.low, frame.low_y);
      };
      as_wide = record { wide = omega (arith, ints, clamps, frame.width); tall = omega (arith, ints, clamps, frame.height) };
      covered = λ x y h. b.covered x y h.left h.right h.low h.high;
    }

pub shrunk : (rects : List Rect) (f : Frame) (min : ℤ) (r : Rect) → IsFrame min r f → (h : HasWidth rects min r) → HasBoxAt rects f (point (int_max h.box.x1 f.low.x) (int_max h.box.y1 f.low.y))
shrunk rects f min r frame h =
    let in_left = h.holds.left in
    let in_right = h.holds.right in
    let in_low = h.holds.low in
    let in_high = h.holds.high in
    let wide = h.as_wide.wide in
    let tall = h.as_wide.tall in
    record {
      left = omega (arith, ints, clamps);
      right = omega (arith, ints, clamps, frame.width, frame.low_x, frame.high_x);
      low = omega (arith, ints, clamps);
      high = omega (arith, ints, clamps, frame.height, frame.low_y, frame.high_y);
      covered = λ x y a b c d. h.covered x y (record {
        left = omega (arith, ints, clamps);
        right = omega (arith, ints, clamps, frame.width, frame.low_x);
        low = omega (arith, ints, clamps);
        high = omega (arith, ints, clamps, frame.height, frame.low_y);
      });
    }

-- a corner with the same coordinates
pub box_moved : (rects : List Rect) (f : Frame) (p q : Point) → p.x ≡ q.x → p.y ≡ q.y → HasBoxAt rects f p → HasBoxAt rects f q
box_moved rects f p q x y b = subst (λ (c : Point). HasBoxAt rects f c) (same_point p q x y) b

pub frame_of_same : (m n : ℤ) (r : Rect) (f : Frame) → m ≡ n → IsFrame m r f → IsFrame n r f
frame_of_same m n r f e frame = subst (λ (k : ℤ). IsFrame k r f) e frame
