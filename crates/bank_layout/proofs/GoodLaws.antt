-- The taps of a bank lie near and behind their rails.
use Rattle.std.proofs.Common.{◌≡◌, ℕ, ◌+◌, ◌*◌, ◌%◌, ◌<◌, ◌≤◌, ℤ, pos, negsuc, ◌+ℤ◌, ◌-ℤ◌, ◌*ℤ◌, ◌≤ℤ◌, Bool, true, false, cond, refl, ap, arith}
use Rattle.std.specs.Prelude.{◌==◌, int_lt}
use Rattle.std.proofs.lemmas.Int.{ints}
use Rattle.std.proofs.lemmas.Nat.{mul-le}
use Rattle.or_geom.specs.declared.shape.Point.{Point}
use Rattle.or_geom.specs.declared.shape.Rect.{Rect}
use Rattle.or_geom.specs.declared.place.Place.{Place}
use Rattle.wire_drawing.specs.declared.route.Tap.{Tap}
use Rattle.tech_rules.specs.declared.tech.Wire.{Wire}
use Rattle.wire_drawing.specs.Drawing.{pitch}
use Rattle.tech_rules.specs.Facts.{AreSizes}
use Rattle.leaf_shapes.specs.declared.pins.LeafPin.{LeafPin}
use Rattle.macro_layout.specs.Places.{upright, mirrored_at}
use Rattle.macro_layout.specs.Floorplan.{rail_x}
use Rattle.row_decoder.specs.RowTaps.{lower_end, right_end, pin_tap, row_place}
use Rattle.bank_layout.specs.BankTaps.{IsInCell}

-- of one of the rails, above the lower edge, and from behind its rail on
pub record IsGoodTap (wire : Wire) (rails : ℕ) (tap : Tap) : Type 0 where
  pub rail : tap.rail < rails
  pub low : pos 0 ≤ℤ tap.y
  pub high : tap.y ≤ℤ pos 1107296256
  pub begins : (rail_x wire tap.rail +ℤ wire.width) ≤ℤ tap.end
  pub right : pos 0 ≤ℤ tap.end
  pub ends : tap.end ≤ℤ pos 67108864

pub record IsPos (z : ℤ) : Type 0 where
  pub n : ℕ
  pub is : z ≡ pos n

pub pos_of : (z : ℤ) → pos 0 ≤ℤ z → IsPos z
pos_of (pos n) le = record { n = n; is = refl }
pos_of (negsuc n) le = absurd (omega (arith, ints, le))

-- a rail ends before a later one begins
pub rail_before : (wire : Wire) (j k : ℕ) → AreSizes wire → j < k → (rail_x wire j +ℤ wire.width) ≤ℤ rail_x wire k
rail_before wire j k sizes lt =
    let width = sizes.width in
    let space = sizes.space in
    let p = pos_of (pitch wire) (omega (arith, ints, width.from, space.from)) in
    let step = p.is in
    let here : rail_x wire j ≡ pos ((j + 1) * p.n) = ap (λ (z : ℤ). pos (j + 1) *ℤ z) step in
    let there : rail_x wire k ≡ pos ((k + 1) * p.n) = ap (λ (z : ℤ). pos (k + 1) *ℤ z) step in
    let more : (j + 2) * p.n ≤ (k + 1) * p.n = mul-le (j + 2) p.n (k + 1) p.n (omega (arith, lt)) (omega arith) in
    let split : (j + 2) * p.n ≡ (j + 1) * p.n + p.n = omega arith in
    omega (arith, ints, here, there, more, split, step, space.from)

pub rail_near : (wire : Wire) (j : ℕ) → AreSizes wire → j ≤ 64 → (pos 0 ≤ℤ rail_x wire j) × (rail_x wire j ≤ℤ pos 8519680)
rail_near wire j sizes le =
    let width = sizes.width in
    let space = sizes.space in
    let p = pos_of (pitch wire) (omega (arith, ints, width.from, space.from)) in
    let step = p.is in
    let here : rail_x wire j ≡ pos ((j + 1) * p.n) = ap (λ (z : ℤ). pos (j + 1) *ℤ z) step in
    let most : (j + 1) * p.n ≤ 65 * 131072 = mul-le (j + 1) p.n 65 131072 (omega (arith, le)) (omega (arith, ints, step, width.to, space.to)) in
    (omega (arith, ints, here), omega (arith, ints, here, most))

-- where a pin's tap lies
pub record IsSpot (x y top : ℤ) (place : Place) (r : Rect) : Type 0 where
  pub low : y ≤ℤ lower_end place r
  pub high : lower_end place r ≤ℤ top
  pub left : x ≤ℤ right_end place r
  pub right : right_end place r ≤ℤ (x +ℤ pos 65536)

either : (P : ℤ → Type 0) (t : Bool) (a b : ℤ) → P a → P b → P (cond t a b)
either P true a b first second = first
either P false a b first second = second

pub upright_spot : (x y : ℤ) (r : Rect) → IsInCell r → IsSpot x y (y +ℤ pos 65536) (upright x y) r
upright_spot x y r is =
    let left = is.left in
    let low = is.low in
    let right = is.right in
    let high = is.high in
    let wide = r.wide in
    let tall = r.tall in
    record {
      low = either (λ z. y ≤ℤ z) (int_lt (r.y2 +ℤ y) (r.y1 +ℤ y)) _ _ (omega (arith, ints, low, tall)) (omega (arith, ints, low));
      high = either (λ z. z ≤ℤ (y +ℤ pos 65536)) (int_lt (r.y2 +ℤ y) (r.y1 +ℤ y)) _ _ (omega (arith, ints, high)) (omega (arith, ints, high, tall));
      left = either (λ z. x ≤ℤ z) (int_lt (r.x2 +ℤ x) (r.x1 +ℤ x)) _ _ (omega (arith, ints, left)) (omega (arith, ints, left, wide));
      right = either (λ z. z ≤ℤ (x +ℤ pos 65536)) (int_lt (r.x2 +ℤ x) (r.x1 +ℤ x)) _ _ (omega (arith, ints, right, wide)) (omega (arith, ints, right));
    }

mirrored_spot : (x y b : ℤ) (r : Rect) → IsInCell r → r.y2 ≤ℤ b → IsSpot x (y -ℤ b) y (mirrored_at x y) r
mirrored_spot x y b r is below =
    let left = is.left in
    let low = is.low in
    let right = is.right in
    let wide = r.wide in
    let tall = r.tall in
    record {
      low = either (λ z. (y -ℤ b) ≤ℤ z) (int_lt ((pos 0 -ℤ r.y2) +ℤ y) ((pos 0 -ℤ r.y1) +ℤ y)) _ _ (omega (arith, ints, below)) (omega (arith, ints, below, tall));
      high = either (λ z. z ≤ℤ y) (int_lt ((pos 0 -ℤ r.y2) +ℤ y) ((pos 0 -ℤ r.y1) +ℤ y)) _ _ (omega (arith, ints, low, tall)) (omega (arith, ints, low));
      left = either (λ z. x ≤ℤ z) (int_lt (r.x2 +ℤ x) (r.x1 +ℤ x)) _ _ (omega (arith, ints, left)) (omega (arith, ints, left, wide));
      right = either (λ z. z ≤ℤ (x +ℤ pos 65536)) (int_lt (r.x2 +ℤ x) (r.x1 +ℤ x)) _ _ (omega (arith, ints, right, wide)) (omega (arith, ints, right));
    }

widen : (x y top u v : ℤ) (place : Place) (r : Rect) → u ≤ℤ y → top ≤ℤ v → IsSpot x y top place r → IsSpot x u v place r
widen x y top u v place r below above s =
    let low = s.low in
    let high = s.high in
    record { low = omega (arith, ints, low, below); high = omega (arith, ints, high, above); left = s.left; right = s.right }

pub row_spot : (h : ℕ) (corner : Point) (r : ℕ) (rect : Rect) → IsInCell rect → rect.y2 ≤ℤ pos h → IsSpot corner.x corner.y (corner.y +ℤ pos ((r + 1) * h + 65536)) (row_place (pos h) corner r) rect
row_spot h corner r rect is below = by (r % 2 == 0) where
  split : (r + 1) * h ≡ r * h + h
  split = omega arith

  by : (t : Bool) → IsSpot corner.x corner.y (corner.y +ℤ pos ((r + 1) * h + 65536)) (cond t (upright corner.x (corner.y +ℤ (pos r *ℤ pos h))) (mirrored_at corner.x (corner.y +ℤ (pos (r + 1) *ℤ pos h)))) rect
  by true = widen corner.x (corner.y +ℤ pos (r * h)) ((corner.y +ℤ pos (r * h)) +ℤ pos 65536) _ _ _ rect (omega (arith, ints)) (omega (arith, ints, split)) (upright_spot corner.x (corner.y +ℤ pos (r * h)) rect is)
  by false = widen corner.x ((corner.y +ℤ pos ((r + 1) * h)) -ℤ pos h) (corner.y +ℤ pos ((r + 1) * h)) _ _ _ rect (omega (arith, ints, split)) (omega (arith, ints)) (mirrored_spot corner.x (corner.y +ℤ pos ((r + 1) * h)) (pos h) rect is below)

pub good_pin : (wire : Wire) (rails rail : ℕ) (row x y top : ℤ) (place : Place) (pin : LeafPin) → AreSizes wire → row ≡ rail_x wire rails → rail < rails → row ≤ℤ x → x ≤ℤ pos 33554432 → pos 0 ≤ℤ row → pos 0 ≤ℤ y → top ≤ℤ pos 1107296256 → IsSpot x y top place pin.rect → IsGoodTap wire rails (pin_tap rail place pin)
good_pin wire rails rail row x y top place pin sizes rows lt behind near right low high s =
    let before = rail_before wire rail rails sizes lt in
    let a = s.low in
    let b = s.high in
    let d = s.left in
    let e = s.right in
    record { rail = lt; low = omega (arith, ints, a, low); high = omega (arith, ints, b, high); begins = omega (arith, ints, before, rows, behind, d); right = omega (arith, ints, right, behind, d); ends = omega (arith, ints, e, near) }
