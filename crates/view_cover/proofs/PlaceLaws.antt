-- Rectangles within bounds, and what stands in a place.
use Rattle.std.proofs.Common.{◌≡◌, ◌⊎◌, inl, inr, ℕ, ℤ, pos, ◌+ℤ◌, ◌≤ℤ◌, Bool, true, false, cond, sym, ap, subst, ◌∙◌, arith}
use Rattle.std.proofs.lemmas.Int.{ints, clamps}
use Rattle.or_geom.specs.declared.shape.Rect.{Rect}
use Rattle.or_geom.specs.declared.shape.Shape.{Shape}
use Rattle.or_geom.specs.declared.place.Place.{Place}
use Rattle.or_geom.specs.Place.{placed, IsImage}
use Rattle.wire_drawing.specs.Drawing.{IsBox}
use Rattle.macro_layout.specs.Places.{upright, mirrored_at}
use Rattle.macro_layout.specs.Stated.{IsShifted}
use Rattle.view_cover.specs.Bits.{LiesWithin, LiesInCell}

pub box_within : (layer : ℕ) (x1 y1 x2 y2 left low right high : ℤ) (s : Shape) → IsBox layer x1 y1 x2 y2 s → left ≤ℤ x1 → low ≤ℤ y1 → x2 ≤ℤ right → y2 ≤ℤ high → LiesWithin left low right high s.rect
box_within layer x1 y1 x2 y2 left low right high s is a b c d = record {
  from = subst (λ (z : ℤ). left ≤ℤ z) (sym is.left) a;
  above = subst (λ (z : ℤ). low ≤ℤ z) (sym is.low) b;
  to = subst (λ (z : ℤ). z ≤ℤ right) (sym is.right) c;
  below = subst (λ (z : ℤ). z ≤ℤ high) (sym is.high) d;
}

pub wider_within : (left low right high left2 right2 : ℤ) (r : Rect) → LiesWithin left low right high r → left2 ≤ℤ left → right ≤ℤ right2 → LiesWithin left2 low right2 high r
wider_within left low right high left2 right2 r is a b = let f = is.from in let t = is.to in record { from = omega (arith, ints, f, a); above = is.above; to = omega (arith, ints, t, b); below = is.below }

-- a shape further right
pub shifted_within : (dx left low right high : ℤ) (s t : Shape) → IsShifted dx (pos 0) s t → LiesWithin left low right high s.rect → LiesWithin (left +ℤ dx) low (right +ℤ dx) high t.rect
shifted_within dx left low right high s t moved is =
    let f = is.from in
    let a = is.above in
    let g = is.to in
    let b = is.below in
    let x1 = moved.x1 in
    let y1 = moved.y1 in
    let x2 = moved.x2 in
    let y2 = moved.y2 in
    record { from = omega (arith, ints, f, x1); above = omega (arith, ints, a, y1); to = omega (arith, ints, g, x2); below = omega (arith, ints, b, y2) }

-- a cell of these sides stands in the place, upright or mirrored, from left to right and below the upper bound
pub record StandsIn (left right high : ℤ) (width height : ℕ) (place : Place) : Type 0 where
  pub x : ℤ
  pub y : ℤ
  pub at : (place ≡ upright x y) ⊎ (place ≡ mirrored_at x (y +ℤ pos height))
  pub from : left ≤ℤ x
  pub to : (x +ℤ pos width) ≤ℤ right
  pub above : pos 0 ≤ℤ y
  pub below : (y +ℤ pos height) ≤ℤ high

upright_image : (x y left right high : ℤ) (width height : ℕ) (r s : Rect) → left ≤ℤ x → (x +ℤ pos width) ≤ℤ right → pos 0 ≤ℤ y → (y +ℤ pos height) ≤ℤ high → LiesInCell width height r → IsImage (placed (upright x y)) r s → LiesWithin left (pos 0) right high s
upright_image x y left right high width height r s a b c d inside image =
    let wide = r.wide in
    let tall = r.tall in
    let x1 = image.x1 in
    let y1 = image.y1 in
    let x2 = image.x2 in
    let y2 = image.y2 in
    let f = inside.from in
    let e = inside.above in
    let t = inside.to in
    let u = inside.below in
    record {
      from = omega (arith, ints, clamps, wide, x1, a, f);
      above = omega (arith, ints, clamps, tall, y1, c, e);
      to = omega (arith, ints, clamps, wide, x2, b, t);
      below = omega (arith, ints, clamps, tall, y2, d, u);
    }

mirrored_image : (x y left right high : ℤ) (width height : ℕ) (r s : Rect) → left ≤ℤ x → (x +ℤ pos width) ≤ℤ right → pos 0 ≤ℤ y → (y +ℤ pos height) ≤ℤ high → LiesInCell width height r → IsImage (placed (mirrored_at x (y +ℤ pos height))) r s → LiesWithin left (pos 0) right high s
mirrored_image x y left right high width height r s a b c d inside image =
    let wide = r.wide in
    let tall = r.tall in
    let x1 = image.x1 in
    let y1 = image.y1 in
    let x2 = image.x2 in
    let y2 = image.y2 in
    let f = inside.from in
    let e = inside.above in
    let t = inside.to in
    let u = inside.below in
    record {
      from = omega (arith, ints, clamps, wide, x1, a, f);
      above = omega (arith, ints, clamps, tall, y1, c, u);
      to = omega (arith, ints, clamps, wide, x2, b, t);
      below = omega (arith, ints, clamps, tall, y2, d, e);
    }

-- what lies in the cell stands between the bounds
pub image_within : (left right high : ℤ) (width height : ℕ) (place : Place) (r s : Rect) → StandsIn left right high width height place → LiesInCell width height r → IsImage (placed place) r s → LiesWithin left (pos 0) right high s
image_within left right high width height place r s is inside image = elim is.at [
  | inl e ↦ upright_image is.x is.y left right high width height r s is.from is.to is.above is.below inside (subst (λ (p : Place). IsImage (placed p) r s) e image)
  | inr e ↦ mirrored_image is.x is.y left right high width height r s is.from is.to is.above is.below inside (subst (λ (p : Place). IsImage (placed p) r s) e image)
]

upright_left : (x y : ℤ) (r s : Rect) → IsImage (placed (upright x y)) r s → s.x1 ≡ r.x1 +ℤ x
upright_left x y r s image = let wide = r.wide in let x1 = image.x1 in x1 ∙ omega (arith, ints, clamps, wide)

mirrored_left : (x y : ℤ) (r s : Rect) → IsImage (placed (mirrored_at x y)) r s → s.x1 ≡ r.x1 +ℤ x
mirrored_left x y r s image = let wide = r.wide in let x1 = image.x1 in x1 ∙ omega (arith, ints, clamps, wide)

-- what begins so far left of the cell's right side that a wire fits does so in the place
pub width_within : (left right high w : ℤ) (width height : ℕ) (place : Place) (r s : Rect) → StandsIn left right high width height place → (r.x1 +ℤ w) ≤ℤ pos width → IsImage (placed place) r s → (s.x1 +ℤ w) ≤ℤ right
width_within left right high w width height place r s is room image =
    let to = is.to in
    elim is.at [
      | inl e ↦ let x1 = upright_left is.x is.y r s (subst (λ (p : Place). IsImage (placed p) r s) e image) in omega (arith, ints, to, room, x1)
      | inr e ↦ let x1 = mirrored_left is.x (is.y +ℤ pos height) r s (subst (λ (p : Place). IsImage (placed p) r s) e image) in omega (arith, ints, to, room, x1)
    ]

-- in every other row a cell is mirrored
pub row_at : (even : Bool) (x y z : ℤ) (h : ℕ) (place : Place) → place ≡ cond even (upright x y) (mirrored_at x z) → z ≡ y +ℤ pos h → (place ≡ upright x y) ⊎ (place ≡ mirrored_at x (y +ℤ pos h))
row_at true x y z h place is up = inl is
row_at false x y z h place is up = inr (is ∙ ap (mirrored_at x) up)
