-- Slabs lie no further out than the corners of their ring.
use Rattle.std.proofs.Common.{◌≡◌, inl, inr, ℕ, List, [], ◌∷◌, ℤ, pos, ◌+ℤ◌, ◌-ℤ◌, ◌≤ℤ◌, ◌<ℤ◌, Bool, true, false, ◌&&◌, refl, ◌∙◌, arith}
use Rattle.std.specs.Prelude.{int_le}
use Rattle.std.specs.List.{AllByRecursion}
use Rattle.std.proofs.lemmas.Int.{ints, by_lt_z}
use Rattle.or_geom.specs.declared.shape.Point.{Point}
use Rattle.or_geom.specs.declared.shape.Rect.{Rect}
use Rattle.or_geom.specs.Place.{IsWithin}
use Rattle.rectilinear.specs.Ring.{sides_on, sides_of}
use Rattle.rectilinear.specs.Slabs.{xor, passes, is_odd_left, HasHeight, IsSlab}
use Rattle.rectilinear.specs.Rows.{is_odd_passed}
use Rattle.rectilinear.specs.Laws.{SlabsStayNear}
use Rattle.rectilinear.proofs.RingLaws.{ring_is_closed}
use Rattle.rectilinear.proofs.RowLaws.{at_or_left, not_left, true_not_false}

shared : (t u b : Bool) → xor (t && b) (u && b) ≡ xor t u && b
shared true true true = refl
shared true true false = refl
shared true false true = refl
shared true false false = refl
shared false true true = refl
shared false true false = refl
shared false false true = refl
shared false false false = refl

-- all corners are left of the cell, or none is
odd_as_passed : (b : Bool) (p : Point) (qs : List Point) (last : Point) (x y : ℤ) → int_le p.x x ≡ b → AllByRecursion (λ (q : Point). int_le q.x x ≡ b) qs → is_odd_left (sides_on p qs last) x y ≡ is_odd_passed (sides_on p qs last) y && b
odd_as_passed b p [] last x y e all = (λ i. xor (passes (record { a = p; b = last }) y && e i) false) ∙ shared (passes (record { a = p; b = last }) y) false b
odd_as_passed b p (q ∷ qs) last x y e all =
    (λ i. xor (passes (record { a = p; b = q }) y && e i) (odd_as_passed b q qs last x y all.0 all.1 i)) ∙ shared (passes (record { a = p; b = q }) y) (is_odd_passed (sides_on q qs last) y) b

outside : (b : Bool) (corners : List Point) (x y : ℤ) → AllByRecursion (λ (q : Point). int_le q.x x ≡ b) corners → is_odd_left (sides_of corners) x y ≡ false
outside b [] x y all = refl
outside b (p ∷ ps) x y all = odd_as_passed b p ps p x y all.0 all.1 ∙ (λ i. ring_is_closed (p ∷ ps) y i && b)

all_left : (n : ℕ) (ps : List Point) (x : ℤ) → AllByRecursion (IsWithin n) ps → pos n ≤ℤ x → AllByRecursion (λ (q : Point). int_le q.x x ≡ true) ps
all_left n [] x all le = tt
all_left n (p ∷ ps) x all le = let most = all.0.x_below in (at_or_left p.x x (omega (arith, ints, most, le)), all_left n ps x all.1 le)

all_right : (n : ℕ) (ps : List Point) (x : ℤ) → AllByRecursion (IsWithin n) ps → (x +ℤ pos n) <ℤ pos 0 → AllByRecursion (λ (q : Point). int_le q.x x ≡ false) ps
all_right n [] x all lt = tt
all_right n (p ∷ ps) x all lt = let least = all.0.x_above in (not_left p.x x (omega (arith, ints, least, lt)), all_right n ps x all.1 lt)

height_above : (n : ℕ) (ps : List Point) (h : ℤ) → AllByRecursion (IsWithin n) ps → HasHeight ps h → pos 0 ≤ℤ (h +ℤ pos n)
height_above n [] h all has = absurd has
height_above n (p ∷ ps) h all (inl e) = let least = all.0.y_above in omega (arith, ints, least, e)
height_above n (p ∷ ps) h all (inr has) = height_above n ps h all.1 has

height_below : (n : ℕ) (ps : List Point) (h : ℤ) → AllByRecursion (IsWithin n) ps → HasHeight ps h → h ≤ℤ pos n
height_below n [] h all has = absurd has
height_below n (p ∷ ps) h all (inl e) = let most = all.0.y_below in omega (arith, ints, most, e)
height_below n (p ∷ ps) h all (inr has) = height_below n ps h all.1 has

left_above : (n : ℕ) (corners : List Point) (r : Rect) → AllByRecursion (IsWithin n) corners → IsSlab corners r → pos 0 ≤ℤ (r.x1 +ℤ pos n)
left_above n corners r all slab =
    let wide : r.x1 <ℤ r.x2 = r.wide in
    let tall : r.y1 <ℤ r.y2 = r.tall in
    by_lt_z (r.x1 +ℤ pos n) (pos 0)
    (λ lt. true_not_false _ (slab.inside r.x1 r.y1 (record { left = omega (arith, ints); right = wide; low = omega (arith, ints); high = tall })) (outside false corners r.x1 r.y1 (all_right n corners r.x1 all lt)))
    (λ ge. ge)

right_below : (n : ℕ) (corners : List Point) (r : Rect) → AllByRecursion (IsWithin n) corners → IsSlab corners r → r.x2 ≤ℤ pos n
right_below n corners r all slab =
    let wide : r.x1 <ℤ r.x2 = r.wide in
    let tall : r.y1 <ℤ r.y2 = r.tall in
    by_lt_z (pos n) r.x2
    (λ lt. true_not_false _ (slab.inside (r.x2 -ℤ pos 1) r.y1 (record { left = omega (arith, ints, wide); right = omega (arith, ints); low = omega (arith, ints); high = tall }))
    (outside true corners (r.x2 -ℤ pos 1) r.y1 (all_left n corners (r.x2 -ℤ pos 1) all (omega (arith, ints, lt)))))
    (λ ge. ge)

pub slabs_stay_near : SlabsStayNear
slabs_stay_near n corners r all slab =
    let wide : r.x1 <ℤ r.x2 = r.wide in
    let heights = slab.heights in
    let left = left_above n corners r all slab in
    let right = right_below n corners r all slab in (
      record { x_above = left; x_below = omega (arith, ints, wide, right); y_above = height_above n corners r.y1 all heights.has_low; y_below = height_below n corners r.y1 all heights.has_low },
      record { x_above = omega (arith, ints, wide, left); x_below = right; y_above = height_above n corners r.y2 all heights.has_high; y_below = height_below n corners r.y2 all heights.has_high },
    )
