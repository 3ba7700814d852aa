-- Shapes of pins that lie beside each other, and what lies opposite one of them at a corner: it is joined with the other.
use Rattle.std.proofs.Common.{◌≡◌, ℕ, ℤ, pos, ◌+ℤ◌, ◌<ℤ◌, Bool, true, false, cond, arith}
use Rattle.std.proofs.lemmas.Int.{ints, clamps}
use Rattle.or_geom.specs.declared.shape.Point.{Point}
use Rattle.or_geom.specs.declared.shape.Rect.{Rect}
use Rattle.or_geom.specs.Place.{placed, IsImage}
use Rattle.or_geom.specs.Joined.{IsIn, AreJoined}
use Rattle.macro_layout.specs.Places.{upright, mirrored_at}
use Rattle.joined_nets.specs.Facing.{FaceAcross}
use Rattle.told_nets.proofs.PointLaws.{AreOpposite, both_west, both_south, both_north}

-- the one ends where the other begins, as high up
pub record EndsAt (t s : Rect) : Type 0 where
  pub ends : t.x2 ≡ s.x1
  pub low : t.y1 ≡ s.y1
  pub high : t.y2 ≡ s.y2

-- In one row, images of boxes that face each other
pub ends_in_row : (turned : Bool) (width : ℕ) (x x' y y' : ℤ) (a b s t : Rect) → FaceAcross a b width → x' ≡ x +ℤ pos width → IsImage (placed (cond turned (upright x y) (mirrored_at x y'))) a s → IsImage (placed (cond turned (upright x' y) (mirrored_at x' y'))) b t → EndsAt s t
ends_in_row true width x x' y y' a b s t face next one two =
    let wide_a : a.x1 <ℤ a.x2 = a.wide in
    let wide_b : b.x1 <ℤ b.x2 = b.wide in
    let tall_a : a.y1 <ℤ a.y2 = a.tall in
    let e1 = face.ends in
    let e2 = face.begins in
    let e3 = face.low in
    let e4 = face.high in
    let s2 = one.x2 in
    let s3 = one.y1 in
    let s4 = one.y2 in
    let t1 = two.x1 in
    let t3 = two.y1 in
    let t4 = two.y2 in
    record { ends = omega (arith, ints, clamps); low = omega (arith, ints, clamps); high = omega (arith, ints, clamps) }
ends_in_row false width x x' y y' a b s t face next one two =
    let wide_a : a.x1 <ℤ a.x2 = a.wide in
    let wide_b : b.x1 <ℤ b.x2 = b.wide in
    let tall_a : a.y1 <ℤ a.y2 = a.tall in
    let e1 = face.ends in
    let e2 = face.begins in
    let e3 = face.low in
    let e4 = face.high in
    let s2 = one.x2 in
    let s3 = one.y1 in
    let s4 = one.y2 in
    let t1 = two.x1 in
    let t3 = two.y1 in
    let t4 = two.y2 in
    record { ends = omega (arith, ints, clamps); low = omega (arith, ints, clamps); high = omega (arith, ints, clamps) }

-- What lies west of a shape, opposite, is joined with one that ends there.
pub met_west : (u s t : Rect) (p : Point) → IsIn u p → IsIn s p → AreOpposite u s p → EndsAt t s → AreJoined u t
met_west u s t p in_u in_s o at =
    let wide_u : u.x1 <ℤ u.x2 = u.wide in
    let wide_t : t.x1 <ℤ t.x2 = t.wide in
    let west = o.west in
    let east = o.east in
    let e1 = at.ends in
    let e2 = at.low in
    let e3 = at.high in
    let low = in_s.low in
    let high = in_s.high in
    both_west u t p in_u (record { left = omega (arith, ints); right = omega (arith, ints); low = omega (arith, ints); high = omega (arith, ints) }) (omega (arith, ints)) (omega (arith, ints))

-- the one begins at the other's left end, and above where the other ends, or below where it begins
pub record BeginsOn (t s : Rect) : Type 0 where
  pub left : t.x1 ≡ s.x1
  pub low : t.y1 ≡ s.y2

pub record EndsUnder (t s : Rect) : Type 0 where
  pub left : t.x1 ≡ s.x1
  pub high : t.y2 ≡ s.y1

-- above
pub met_north : (u s t : Rect) (p : Point) → IsIn u p → AreOpposite u s p → (s.y2 ≡ p.y) × (u.y1 ≡ p.y) → BeginsOn t s → AreJoined u t
met_north u s t p in_u o y at =
    let tall_u : u.y1 <ℤ u.y2 = u.tall in
    let tall_t : t.y1 <ℤ t.y2 = t.tall in
    let wide_t : t.x1 <ℤ t.x2 = t.wide in
    let east = o.east in
    let e1 = at.left in
    let e2 = at.low in
    let y0 = y.0 in
    let y1 = y.1 in
    both_north u t p in_u (record { left = omega (arith, ints); right = omega (arith, ints); low = omega (arith, ints); high = omega (arith, ints) }) (omega (arith, ints)) (omega (arith, ints))

-- below
pub met_south : (u s t : Rect) (p : Point) → IsIn u p → AreOpposite u s p → (u.y2 ≡ p.y) × (s.y1 ≡ p.y) → EndsUnder t s → AreJoined u t
met_south u s t p in_u o y at =
    let tall_u : u.y1 <ℤ u.y2 = u.tall in
    let tall_t : t.y1 <ℤ t.y2 = t.tall in
    let wide_t : t.x1 <ℤ t.x2 = t.wide in
    let east = o.east in
    let e1 = at.left in
    let e2 = at.high in
    let y0 = y.0 in
    let y1 = y.1 in
    both_south u t p in_u (record { left = omega (arith, ints); right = omega (arith, ints); low = omega (arith, ints); high = omega (arith, ints) }) (omega (arith, ints)) (omega (arith, ints))
