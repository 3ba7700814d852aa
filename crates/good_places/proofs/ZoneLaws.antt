-- What leaf instances draw lies near their zones.
use Rattle.std.proofs.Common.{◌≡◌, ℕ, ℤ, pos, ◌+ℤ◌, ◌≤ℤ◌, Bool, true, false, cond, subst, arith}
use Rattle.std.proofs.lemmas.Int.{ints, clamps}
use Rattle.or_geom.specs.declared.shape.Rect.{Rect}
use Rattle.or_geom.specs.declared.place.Place.{Place}
use Rattle.or_geom.specs.Place.{placed, IsImage}
use Rattle.shape_bins.specs.Meets.{Overlap}
use Rattle.tile_checker.specs.Breaks.{IsGrown}
use Rattle.macro_layout.specs.Places.{upright, mirrored_at}
use Rattle.local_report.specs.Moved.{IsMovedBy, OverlapsMoved}
use Rattle.good_places.specs.Leaves.{Zone, LiesNear, AreNearZones, PassesAtMost}

pub upright_near : (by x y : ℤ) (w h : ℕ) (z : Zone) (r s : Rect) → z.left ≤ℤ x → (x +ℤ pos w) ≤ℤ z.right → z.low ≤ℤ y → (y +ℤ pos h) ≤ℤ z.high → PassesAtMost by w h r → IsImage (placed (upright x y)) r s → LiesNear by z s
upright_near by x y w h z r s a b c d passes image =
    let wide = r.wide in
    let tall = r.tall in
    let x1 = image.x1 in
    let y1 = image.y1 in
    let x2 = image.x2 in
    let y2 = image.y2 in
    record {
      left = let p = passes.left in omega (arith, ints, clamps, wide, x1, a, p);
      right = let p = passes.right in omega (arith, ints, clamps, wide, x2, b, p);
      low = let p = passes.low in omega (arith, ints, clamps, tall, y1, c, p);
      high = let p = passes.high in omega (arith, ints, clamps, tall, y2, d, p);
    }

pub mirrored_near : (by x y : ℤ) (w h : ℕ) (z : Zone) (r s : Rect) → z.left ≤ℤ x → (x +ℤ pos w) ≤ℤ z.right → (z.low +ℤ pos h) ≤ℤ y → y ≤ℤ z.high → PassesAtMost by w h r → IsImage (placed (mirrored_at x y)) r s → LiesNear by z s
mirrored_near by x y w h z r s a b c d passes image =
    let wide = r.wide in
    let tall = r.tall in
    let x1 = image.x1 in
    let y1 = image.y1 in
    let x2 = image.x2 in
    let y2 = image.y2 in
    record {
      left = let p = passes.left in omega (arith, ints, clamps, wide, x1, a, p);
      right = let p = passes.right in omega (arith, ints, clamps, wide, x2, b, p);
      low = let p = passes.high in omega (arith, ints, clamps, tall, y1, c, p);
      high = let p = passes.low in omega (arith, ints, clamps, tall, y2, d, p);
    }

-- what stands in a place where the test says whether it is mirrored
pub choice_near : (even : Bool) (by x y v : ℤ) (w h : ℕ) (z : Zone) (place : Place) (r s : Rect) → place ≡ cond even (upright x y) (mirrored_at x v) → v ≡ y +ℤ pos h → z.left ≤ℤ x → (x +ℤ pos w) ≤ℤ z.right → z.low ≤ℤ y → (y +ℤ pos h) ≤ℤ z.high
    → PassesAtMost by w h r → IsImage (placed place) r s → LiesNear by z s
choice_near true by x y v w h z place r s is up a b c d passes image = upright_near by x y w h z r s a b c d passes (subst (λ (p : Place). IsImage (placed p) r s) is image)
choice_near false by x y v w h z place r s is up a b c d passes image =
    mirrored_near by x v w h z r s a b (let e = up in omega (arith, ints, e, c)) (let e = up in omega (arith, ints, e, d)) passes (subst (λ (p : Place). IsImage (placed p) r s) is image)

-- where one shape overlaps the other, grown, their zones are near
pub near_zones : (by min reach : ℤ) (z w : Zone) (a s frame : Rect) → (min +ℤ (by +ℤ by)) ≤ℤ reach → LiesNear by z a → LiesNear by w s → IsGrown min a frame → Overlap s frame → AreNearZones reach w z
near_zones by min reach z w a s frame e in_z in_w grown over = record {
  left = let p = in_w.left in let q = in_z.right in let o = over.left in let g = grown.right in omega (arith, ints, e, p, q, o, g);
  right = let p = in_w.right in let q = in_z.left in let o = over.right in let g = grown.left in omega (arith, ints, e, p, q, o, g);
  low = let p = in_w.low in let q = in_z.high in let o = over.low in let g = grown.high in omega (arith, ints, e, p, q, o, g);
  high = let p = in_w.high in let q = in_z.low in let o = over.high in let g = grown.low in omega (arith, ints, e, p, q, o, g);
}

-- the same where both are seen further right and up
pub near_zones_moved : (by min reach dx dy : ℤ) (z w : Zone) (image a s frame : Rect) → (min +ℤ (by +ℤ by)) ≤ℤ reach → LiesNear by z image → LiesNear by w s → IsMovedBy dx dy image a → IsGrown min a frame → OverlapsMoved frame dx dy s → AreNearZones reach w z
near_zones_moved by min reach dx dy z w image a s frame e in_z in_w m grown over = record {
  left = let p = in_w.left in let q = in_z.right in let o = over.right in let g = grown.right in let t = m.x2 in omega (arith, ints, e, p, q, o, g, t);
  right = let p = in_w.right in let q = in_z.left in let o = over.left in let g = grown.left in let t = m.x1 in omega (arith, ints, e, p, q, o, g, t);
  low = let p = in_w.low in let q = in_z.high in let o = over.high in let g = grown.high in let t = m.y2 in omega (arith, ints, e, p, q, o, g, t);
  high = let p = in_w.high in let q = in_z.low in let o = over.low in let g = grown.low in let t = m.y1 in omega (arith, ints, e, p, q, o, g, t);
}
