-- The four corners of a rectangle have one slab, the rectangle.
use Rattle.std.proofs.Common.{◌≡◌, ◌⊎◌, inl, inr, ℤ, pos, ◌-ℤ◌, ◌≤ℤ◌, ◌<ℤ◌, [], ◌∷◌, Bool, true, false, ◌&&◌, refl, sym, subst, ◌∙◌, arith}
use Rattle.std.proofs.lemmas.Int.{ints, by_lt_z}
use Rattle.std.specs.Prelude.{int_le}
use Rattle.or_geom.specs.declared.shape.Rect.{Rect}
use Rattle.or_geom.specs.Covered.{HasCell}
use Rattle.or_geom.proofs.ListLaws.{contains_none, contains_cases, contains_here}
use Rattle.or_geom.proofs.PlaceLaws.{same_rect}
use Rattle.rectilinear.specs.Slabs.{xor, HasHeight, IsInside, IsSlab, IsSlabList}
use Rattle.cell_builder.specs.Structures.{ring}

abbrev odd_of : Bool → Bool → Bool → Bool → Bool
odd_of a b c d = xor (xor a a && c) (xor (xor a b && d) (xor (xor b b && d) (xor (xor b a && c) false)))

odd_is : (a b c d : Bool) → odd_of a b c d ≡ xor a b && xor c d
odd_is true true true true = refl
odd_is true true true false = refl
odd_is true true false true = refl
odd_is true true false false = refl
odd_is true false true true = refl
odd_is true false true false = refl
odd_is true false false true = refl
odd_is true false false false = refl
odd_is false true true true = refl
odd_is false true true false = refl
odd_is false true false true = refl
odd_is false true false false = refl
odd_is false false true true = refl
odd_is false false true false = refl
odd_is false false false true = refl
odd_is false false false false = refl

both_true : (a b : Bool) → a && b ≡ true → (a ≡ true) × (b ≡ true)
both_true true b e = (refl, e)
both_true false b e = absurd cc

-- z lies from a up to b
record IsFrom (a b z : ℤ) : Type 0 where
  low : a ≤ℤ z
  high : z <ℤ b

differ_from : (a b z : ℤ) (p q : Bool) → a <ℤ b → int_le a z ≡ p → int_le b z ≡ q → xor p q ≡ true → IsFrom a b z
differ_from a b z true true lt e f x = absurd cc
differ_from a b z true false lt e f x = record { low = grind (arith, ints, e); high = grind (arith, ints, f) }
differ_from a b z false true lt e f x = absurd (grind (arith, ints, e, f, lt))
differ_from a b z false false lt e f x = absurd cc

from_differ : (a b z : ℤ) → IsFrom a b z → xor (int_le a z) (int_le b z) ≡ true
from_differ a b z f =
    let low = f.low in
    let high = f.high in
    let p : int_le a z ≡ true = grind (arith, ints, low) in
    let q : int_le b z ≡ false = grind (arith, ints, high) in
    (λ i. xor (p i) (q i))

inside_cell : (r : Rect) (x y : ℤ) → IsInside (ring r) x y → HasCell r x y
inside_cell r x y h =
    let b = both_true _ _ (sym (odd_is (int_le r.y1 y) (int_le r.y2 y) (int_le r.x1 x) (int_le r.x2 x)) ∙ h) in
    let v = differ_from r.y1 r.y2 y _ _ r.tall refl refl b.0 in
    let u = differ_from r.x1 r.x2 x _ _ r.wide refl refl b.1 in
    record { left = u.low; right = u.high; low = v.low; high = v.high }

cell_inside : (r : Rect) (x y : ℤ) → HasCell r x y → IsInside (ring r) x y
cell_inside r x y h =
    let v = from_differ r.y1 r.y2 y (record { low = h.low; high = h.high }) in
    let u = from_differ r.x1 r.x2 x (record { low = h.left; high = h.right }) in
    odd_is (int_le r.y1 y) (int_le r.y2 y) (int_le r.x1 x) (int_le r.x2 x) ∙ (λ i. v i && u i)

one_of : (r : Rect) (h : ℤ) → HasHeight (ring r) h → (h ≡ r.y1) ⊎ (h ≡ r.y2)
one_of r h (inl e) = inl e
one_of r h (inr (inl e)) = inl e
one_of r h (inr (inr (inl e))) = inr e
one_of r h (inr (inr (inr (inl e)))) = inr e
one_of r h (inr (inr (inr (inr e)))) = absurd e

same_heights : (r s : Rect) → HasHeight (ring r) s.y1 → HasHeight (ring r) s.y2 → (s.y1 ≡ r.y1) × (s.y2 ≡ r.y2)
same_heights r s low high =
    let tall = s.tall in
    let up = r.tall in
    elim (one_of r s.y1 low) [
      | inl a ↦ elim (one_of r s.y2 high) [ inl b ↦ absurd (omega (arith, ints)) | inr b ↦ (a, b) ]
      | inr a ↦ elim (one_of r s.y2 high) [ inl b ↦ absurd (omega (arith, ints)) | inr b ↦ absurd (omega (arith, ints)) ]
    ]

pub slab_is : (r s : Rect) → IsSlab (ring r) s → s ≡ r
slab_is r s slab =
    let h = same_heights r s slab.heights.has_low slab.heights.has_high in
    let low = h.0 in
    let high = h.1 in
    let wide = s.wide in
    let tall = s.tall in
    let first = inside_cell r s.x1 s.y1 (slab.inside s.x1 s.y1 (record { left = omega (arith, ints); right = omega (arith, ints); low = omega (arith, ints); high = omega (arith, ints) })) in
    let last = inside_cell r (s.x2 -ℤ pos 1) s.y1 (slab.inside (s.x2 -ℤ pos 1) s.y1 (record { left = omega (arith, ints); right = omega (arith, ints); low = omega (arith, ints); high = omega (arith, ints) })) in
    let in_low = first.left in
    let in_high = last.right in
    let left : s.x1 ≡ r.x1 = by_lt_z r.x1 s.x1
    (λ less. absurd (slab.left_end s.y1 (omega (arith, ints)) (omega (arith, ints)) (cell_inside r (s.x1 -ℤ pos 1) s.y1 (record { left = omega (arith, ints, less); right = omega (arith, ints, in_high, wide); low = omega (arith, ints, low); high = omega (arith, ints, low, high, tall) }))))
    (λ le. omega (arith, ints, le, in_low)) in
    let right : s.x2 ≡ r.x2 = by_lt_z s.x2 r.x2
    (λ less. absurd (slab.right_end s.y1 (omega (arith, ints)) (omega (arith, ints)) (cell_inside r s.x2 s.y1 (record { left = omega (arith, ints, in_low, wide); right = less; low = omega (arith, ints, low); high = omega (arith, ints, low, high, tall) }))))
    (λ le. omega (arith, ints, le, in_high)) in
    same_rect s r left low right high

no_between : (r : Rect) (h : ℤ) → HasHeight (ring r) h → r.y1 <ℤ h → r.y2 ≤ℤ h
no_between r h has less = elim (one_of r h has) [ inl e ↦ absurd (omega (arith, ints, e, less)) | inr e ↦ omega (arith, ints, e) ]

ring_slab : (r : Rect) → IsSlab (ring r) r
ring_slab r = record {
  heights = record { has_low = inl refl; has_high = inr (inr (inl refl)); below = r.tall; none = no_between r };
  inside = cell_inside r;
  left_end = λ y low high h. let c = (inside_cell r (r.x1 -ℤ pos 1) y h).left in omega (arith, ints, c);
  right_end = λ y low high h. let c = (inside_cell r r.x2 y h).right in omega (arith, ints, c);
}

pub ring_slabs : (r : Rect) → IsSlabList (ring r) (r ∷ [])
ring_slabs r = record {
  exact = λ s. (λ c. elim (contains_cases r [] s c) [ inl e ↦ subst (IsSlab (ring r)) (sym e) (ring_slab r) | inr none ↦ absurd (contains_none s none) ], λ slab. contains_here r [] s (slab_is r s slab));
  distinct = (contains_none r, tt);
}
