-- Turns and offsets, one after another.
use Rattle.std.specs.Ordering.{is_eq, int_cmp}
use Rattle.std.specs.FinMap.{int_cmp-IsAntisymmetric}
use Rattle.std.specs.Cmp.{Equal-is}
use Rattle.std.proofs.Props.{props}
use Rattle.std.proofs.Common.{◌≡◌, ◌≢◌, Bool, true, false, ◌&&◌, ℕ, ◌+◌, subst, ℤ, ◌<ℤ◌, ◌+ℤ◌, w64, FitsSigned, to_z, of_z, refl, ap, ◌∙◌, sym, arith, pos}
use Rattle.std.proofs.lemmas.Int.{ints, to_z-of_z}
use Rattle.or_geom.specs.declared.shape.Point.{Point}
use Rattle.or_geom.specs.declared.shape.Rect.{Rect}
use Rattle.or_geom.specs.Distance.{IsNear}
use Rattle.or_geom.specs.declared.place.Orient.{Orient}
use Rattle.or_geom.specs.declared.place.Orient.TheVariants.{R0, R90, R180, R270, MX, MX90, MX180, MX270}
use Rattle.or_geom.specs.declared.place.Place.{Place}
use Rattle.or_geom.specs.Place.{IsWithin, quarter, reflected, turned, placed, low_corner, high_corner, IsImage}

abbrev pub origin : Point
origin = record { x = pos 0; y = pos 0 }

pub same_point : (p q : Point) → p.x ≡ q.x → p.y ≡ q.y → p ≡ q
same_point p q x y = λ i. record { x = x i; y = y i }

-- what several quarter turns make, after a reflection or without
pub quarters_270 : (p : Point) → quarter (quarter (quarter p)) ≡ turned R270 p
quarters_270 p = same_point _ _ (omega (arith, ints)) (omega (arith, ints))

pub quarters_mx90 : (p : Point) → quarter (reflected p) ≡ turned MX90 p
quarters_mx90 p = same_point _ _ (omega (arith, ints)) (omega (arith, ints))

pub quarters_mx180 : (p : Point) → quarter (quarter (reflected p)) ≡ turned MX180 p
quarters_mx180 p = same_point _ _ (omega (arith, ints)) (omega (arith, ints))

pub quarters_mx270 : (p : Point) → quarter (quarter (quarter (reflected p))) ≡ turned MX270 p
quarters_mx270 p = same_point _ _ (omega (arith, ints)) (omega (arith, ints))

pub sum_kept : (a b : ℤ) → IsNear a → IsNear b → to_z w64 (of_z w64 (to_z w64 (of_z w64 a) +ℤ to_z w64 (of_z w64 b))) ≡ a +ℤ b
sum_kept a b m n =
    let fits_a : FitsSigned w64 a = omega (arith, ints, m.above, m.below) in
    let fits_b : FitsSigned w64 b = omega (arith, ints, n.above, n.below) in
    let fits : FitsSigned w64 (a +ℤ b) = omega (arith, ints, m.above, m.below, n.above, n.below) in
    rw (to_z-of_z w64 a fits_a, to_z-of_z w64 b fits_b, to_z-of_z w64 (a +ℤ b) fits) refl

abbrev pub plus : Point → Point → Point
plus p q = record { x = p.x +ℤ q.x; y = p.y +ℤ q.y }

-- a turn of a sum, moved
pub turned_sum : (o : Orient) (a b c : Point) → plus (turned o a) (plus (turned o b) c) ≡ plus (turned o (plus a b)) c
turned_sum R0 a b c = same_point _ _ (omega (arith, ints)) (omega (arith, ints))
turned_sum R90 a b c = same_point _ _ (omega (arith, ints)) (omega (arith, ints))
turned_sum R180 a b c = same_point _ _ (omega (arith, ints)) (omega (arith, ints))
turned_sum R270 a b c = same_point _ _ (omega (arith, ints)) (omega (arith, ints))
turned_sum MX a b c = same_point _ _ (omega (arith, ints)) (omega (arith, ints))
turned_sum MX90 a b c = same_point _ _ (omega (arith, ints)) (omega (arith, ints))
turned_sum MX180 a b c = same_point _ _ (omega (arith, ints)) (omega (arith, ints))
turned_sum MX270 a b c = same_point _ _ (omega (arith, ints)) (omega (arith, ints))

-- one place after another
pub placed_after : (outer inner : Place) (both : Place) → ((p : Point) → turned both.orient p ≡ turned outer.orient (turned inner.orient p)) → both.at ≡ placed outer inner.at
    → (p : Point) → placed both p ≡ placed outer (placed inner p)
placed_after outer inner both turns at p =
    ap (λ (t : Point). plus t both.at) (turns p)
    ∙ (ap (λ (t : Point). plus (turned outer.orient (turned inner.orient p)) t) at
    ∙ turned_sum outer.orient (turned inner.orient p) inner.at outer.at)

differ : (o : Orient) (at : Point) (x1 y1 x2 y2 : ℤ) → x1 <ℤ x2 → y1 <ℤ y2
    → (((turned o (record { x = x1; y = y1 })).x +ℤ at.x) ≢ ((turned o (record { x = x2; y = y2 })).x +ℤ at.x))
    × (((turned o (record { x = x1; y = y1 })).y +ℤ at.y) ≢ ((turned o (record { x = x2; y = y2 })).y +ℤ at.y))
differ R0 at x1 y1 x2 y2 wide tall = (λ e. omega (arith, ints), λ e. omega (arith, ints))
differ R90 at x1 y1 x2 y2 wide tall = (λ e. omega (arith, ints), λ e. omega (arith, ints))
differ R180 at x1 y1 x2 y2 wide tall = (λ e. omega (arith, ints), λ e. omega (arith, ints))
differ R270 at x1 y1 x2 y2 wide tall = (λ e. omega (arith, ints), λ e. omega (arith, ints))
differ MX at x1 y1 x2 y2 wide tall = (λ e. omega (arith, ints), λ e. omega (arith, ints))
differ MX90 at x1 y1 x2 y2 wide tall = (λ e. omega (arith, ints), λ e. omega (arith, ints))
differ MX180 at x1 y1 x2 y2 wide tall = (λ e. omega (arith, ints), λ e. omega (arith, ints))
differ MX270 at x1 y1 x2 y2 wide tall = (λ e. omega (arith, ints), λ e. omega (arith, ints))

-- corners that differ in both directions still do
pub corners_differ : (place : Place) (r : Rect) → ((placed place (low_corner r)).x ≢ (placed place (high_corner r)).x) × ((placed place (low_corner r)).y ≢ (placed place (high_corner r)).y)
corners_differ place r = differ place.orient place.at r.x1 r.y1 r.x2 r.y2 r.wide r.tall

-- a turn keeps a bound
pub turned_within : (o : Orient) (n : ℕ) (p : Point) → IsWithin n p → IsWithin n (turned o p)
turned_within R0 n p w = record { x_above = omega (arith, ints); x_below = omega (arith, ints); y_above = omega (arith, ints); y_below = omega (arith, ints) }
turned_within R90 n p w = record { x_above = omega (arith, ints); x_below = omega (arith, ints); y_above = omega (arith, ints); y_below = omega (arith, ints) }
turned_within R180 n p w = record { x_above = omega (arith, ints); x_below = omega (arith, ints); y_above = omega (arith, ints); y_below = omega (arith, ints) }
turned_within R270 n p w = record { x_above = omega (arith, ints); x_below = omega (arith, ints); y_above = omega (arith, ints); y_below = omega (arith, ints) }
turned_within MX n p w = record { x_above = omega (arith, ints); x_below = omega (arith, ints); y_above = omega (arith, ints); y_below = omega (arith, ints) }
turned_within MX90 n p w = record { x_above = omega (arith, ints); x_below = omega (arith, ints); y_above = omega (arith, ints); y_below = omega (arith, ints) }
turned_within MX180 n p w = record { x_above = omega (arith, ints); x_below = omega (arith, ints); y_above = omega (arith, ints); y_below = omega (arith, ints) }
turned_within MX270 n p w = record { x_above = omega (arith, ints); x_below = omega (arith, ints); y_above = omega (arith, ints); y_below = omega (arith, ints) }

pub plus_within : (m n : ℕ) (p q : Point) → IsWithin m p → IsWithin n q → IsWithin (m + n) (plus q p)
plus_within m n p q v w = record { x_above = omega (arith, ints); x_below = omega (arith, ints); y_above = omega (arith, ints); y_below = omega (arith, ints) }

-- the offset of one place after another
pub after_within : (outer inner : Place) (at : Point) → at ≡ placed outer inner.at → (m n : ℕ) → IsWithin m outer.at → IsWithin n inner.at → IsWithin (m + n) at
after_within outer inner at is m n v w = rw is (plus_within m n outer.at (turned outer.orient inner.at) v (turned_within outer.orient n inner.at w))

abbrev box_of : (x1 y1 x2 y2 : ℤ) → x1 <ℤ x2 → y1 <ℤ y2 → Rect
box_of x1 y1 x2 y2 w t = record { x1 = x1; y1 = y1; x2 = x2; y2 = y2; wide = w; tall = t }

less_once : (a b : ℤ) → IsProp (a <ℤ b)
less_once a b = Prim.hlevel props

-- A rectangle is its sides.
pub same_rect : (r s : Rect) → r.x1 ≡ s.x1 → r.y1 ≡ s.y1 → r.x2 ≡ s.x2 → r.y2 ≡ s.y2 → r ≡ s
same_rect r s x1 y1 x2 y2 =
    let base : (w : s.x1 <ℤ s.x2) (t : s.y1 <ℤ s.y2) → box_of s.x1 s.y1 s.x2 s.y2 w t ≡ s = λ w t. λ i. box_of s.x1 s.y1 s.x2 s.y2 (less_once s.x1 s.x2 w s.wide i) (less_once s.y1 s.y2 t s.tall i) in
    let one = subst (λ (a : ℤ). (w : a <ℤ s.x2) (t : s.y1 <ℤ s.y2) → box_of a s.y1 s.x2 s.y2 w t ≡ s) (sym x1) base in
    let two = subst (λ (a : ℤ). (w : r.x1 <ℤ s.x2) (t : a <ℤ s.y2) → box_of r.x1 a s.x2 s.y2 w t ≡ s) (sym y1) one in
    let three = subst (λ (a : ℤ). (w : r.x1 <ℤ a) (t : r.y1 <ℤ s.y2) → box_of r.x1 r.y1 a s.y2 w t ≡ s) (sym x2) two in
    let four = subst (λ (a : ℤ). (w : r.x1 <ℤ r.x2) (t : r.y1 <ℤ a) → box_of r.x1 r.y1 r.x2 a w t ≡ s) (sym y2) three in
    four r.wide r.tall

-- A rectangle has one image.
pub image_once : (move : Point → Point) (box r s : Rect) → IsImage move box r → IsImage move box s → r ≡ s
image_once move box r s a b = same_rect r s (a.x1 ∙ sym b.x1) (a.y1 ∙ sym b.y1) (a.x2 ∙ sym b.x2) (a.y2 ∙ sym b.y2)

both_true : (a b : Bool) → a && b ≡ true → (a ≡ true) × (b ≡ true)
both_true true b e = (refl, e)
both_true false b e = absurd cc

same_int : (x y : ℤ) → is_eq (int_cmp x y) ≡ true → x ≡ y
same_int x y e = int_cmp-IsAntisymmetric x y ((Equal-is (int_cmp x y)).0 e)

-- rectangles that compare as equal are
pub same_box : (r s : Rect) → (is_eq (int_cmp r.x1 s.x1) && (is_eq (int_cmp r.y1 s.y1) && (is_eq (int_cmp r.x2 s.x2) && is_eq (int_cmp r.y2 s.y2)))) ≡ true → r ≡ s
same_box r s e =
    let a = both_true _ _ e in
    let b = both_true _ _ a.1 in
    let d = both_true _ _ b.1 in
    same_rect r s (same_int _ _ a.0) (same_int _ _ b.0) (same_int _ _ d.0) (same_int _ _ d.1)
