-- The least distance of two spans in each case, and of two rectangles from those of their spans.
use Rattle.std.proofs.Common.{◌≡◌, ◌⊎◌, inl, inr, ℕ, ◌*◌, ◌≤◌, ◌^◌, ℤ, pos, negsuc, ◌≤ℤ◌, ◌<ℤ◌, ◌+ℤ◌, ◌-ℤ◌, ◌*ℤ◌, refl, sym, ap, ◌∙◌, arith}
use Rattle.std.specs.Int.{int_max, w128}
use Rattle.std.specs.Prelude.{unsigned_abs, FitsSigned}
use mir.Val.{to_z, of_z}
use Rattle.std.proofs.lemmas.Int.{ints, clamps, to_z-of_z, fits_signed_from_abs}
use Rattle.or_geom.specs.declared.shape.Rect.{Rect}
use Rattle.or_geom.specs.declared.span.Span.{Span}
use Rattle.or_geom.specs.Distance.{IsInSpan, IsLeastDistance, IsLeastDist2}
use Rattle.or_geom.specs.Span.{across, upward}

pub distance_before : (a b : Span) (d : ℤ) → a.high <ℤ b.low → d ≡ b.low -ℤ a.high → IsLeastDistance a b d
distance_before a b d lt e = record {
  least = λ p q in_a in_b. inl (omega (arith, ints));
  positive = omega (arith, ints);
  p = a.high;
  q = b.low;
  p_in_a = record { above = omega (arith, ints); below = omega (arith, ints) };
  q_in_b = record { above = omega (arith, ints); below = omega (arith, ints) };
  reached = inl (omega (arith, ints));
}

pub distance_after : (a b : Span) (d : ℤ) → b.high <ℤ a.low → d ≡ a.low -ℤ b.high → IsLeastDistance a b d
distance_after a b d lt e = record {
  least = λ p q in_a in_b. inr (inl (omega (arith, ints)));
  positive = omega (arith, ints);
  p = a.low;
  q = b.high;
  p_in_a = record { above = omega (arith, ints); below = omega (arith, ints) };
  q_in_b = record { above = omega (arith, ints); below = omega (arith, ints) };
  reached = inr (omega (arith, ints));
}

pub distance_none : (a b : Span) → b.low ≤ℤ a.high → a.low ≤ℤ b.high → IsLeastDistance a b (pos 0)
distance_none a b h k = record {
  least = λ p q in_a in_b. inr (inr refl);
  positive = omega (arith, ints);
  p = int_max a.low b.low;
  q = int_max a.low b.low;
  p_in_a = record { above = omega (arith, ints, clamps); below = omega (arith, ints, clamps) };
  q_in_b = record { above = omega (arith, ints, clamps); below = omega (arith, ints, clamps) };
  reached = inl (omega (arith, ints));
}

-- a square by the absolute value
pub square_abs : (z : ℤ) → z *ℤ z ≡ pos (unsigned_abs z * unsigned_abs z)
square_abs (pos n) = refl
square_abs (negsuc n) = refl

pub square_grows : (d e : ℕ) → d ≤ e → d * d ≤ e * e
square_grows d e h = grind arith

-- two numbers of the spans have a squared distance that is at least the square of the least distance
square_least : (a b : Span) (d p q : ℤ) → IsLeastDistance a b d → IsInSpan a p → IsInSpan b q → (d *ℤ d) ≤ℤ ((p -ℤ q) *ℤ (p -ℤ q))
square_least a b d p q g in_a in_b =
    let far : unsigned_abs d ≤ unsigned_abs (p -ℤ q) = elim (g.least p q in_a in_b) [
      | inl h ↦ omega (arith, ints, g.positive)
      | inr r ↦ elim r [ inl h ↦ omega (arith, ints, g.positive) | inr z ↦ rw z (omega arith) ]
    ] in
    let s = square_grows (unsigned_abs d) (unsigned_abs (p -ℤ q)) far in
    rw (square_abs d, square_abs (p -ℤ q)) (omega (arith, ints))

square_reached : (d p q : ℤ) → (p +ℤ d ≡ q) ⊎ (q +ℤ d ≡ p) → (p -ℤ q) *ℤ (p -ℤ q) ≡ d *ℤ d
square_reached d p q h =
    let same : unsigned_abs (p -ℤ q) ≡ unsigned_abs d = elim h [ inl e ↦ omega (arith, ints) | inr e ↦ omega (arith, ints) ] in
    square_abs (p -ℤ q) ∙ ap (λ (n : ℕ). pos (n * n)) same ∙ sym (square_abs d)

sum_grows : (a b c d : ℤ) → a ≤ℤ c → b ≤ℤ d → (a +ℤ b) ≤ℤ (c +ℤ d)
sum_grows a b c d x y = omega (arith, ints)

pub least_dist2 : (a b : Rect) (dx dy d : ℤ) → IsLeastDistance (across a) (across b) dx → IsLeastDistance (upward a) (upward b) dy → d ≡ (dx *ℤ dx) +ℤ (dy *ℤ dy) → IsLeastDist2 a b d
least_dist2 a b dx dy d gx gy e = record {
  least = λ p q in_a in_b.
      let x = square_least (across a) (across b) dx p.x q.x gx (record { above = in_a.left; below = in_a.right }) (record { above = in_b.left; below = in_b.right }) in
      let y = square_least (upward a) (upward b) dy p.y q.y gy (record { above = in_a.low; below = in_a.high }) (record { above = in_b.low; below = in_b.high }) in
      rw e (sum_grows (dx *ℤ dx) (dy *ℤ dy) ((p.x -ℤ q.x) *ℤ (p.x -ℤ q.x)) ((p.y -ℤ q.y) *ℤ (p.y -ℤ q.y)) x y);
  p = record { x = gx.p; y = gy.p };
  q = record { x = gx.q; y = gy.q };
  p_in_a = record { left = gx.p_in_a.above; right = gx.p_in_a.below; low = gy.p_in_a.above; high = gy.p_in_a.below };
  q_in_b = record { left = gx.q_in_b.above; right = gx.q_in_b.below; low = gy.q_in_b.above; high = gy.q_in_b.below };
  reached = rw (square_reached dx gx.p gx.q gx.reached, square_reached dy gy.p gy.q gy.reached) (sym e);
}

abs_bound : (d : ℤ) → pos 0 ≤ℤ d → d ≤ℤ pos (2 ^ 41) → unsigned_abs d * unsigned_abs d ≤ 2 ^ 82
abs_bound d a b =
    let small : unsigned_abs d ≤ 2 ^ 41 = omega (arith, ints) in
    let e : 2 ^ 41 * 2 ^ 41 ≡ 2 ^ 82 = refl in
    omega (arith, square_grows (unsigned_abs d) (2 ^ 41) small, e)

-- the square of a distance stays far below 2^127
pub square_small : (d : ℤ) → pos 0 ≤ℤ d → d ≤ℤ pos (2 ^ 41) → (pos 0 ≤ℤ (d *ℤ d)) × ((d *ℤ d) ≤ℤ pos (2 ^ 82))
square_small d a b =
    let s = abs_bound d a b in
    rw (square_abs d) (omega (arith, ints), omega (arith, ints, s))

-- so 128 bits keep it
pub square_kept : (d : ℤ) → pos 0 ≤ℤ d → d ≤ℤ pos (2 ^ 41) → to_z w128 (of_z w128 (to_z w128 (of_z w128 d) *ℤ to_z w128 (of_z w128 d))) ≡ d *ℤ d
square_kept d a b =
    let small : unsigned_abs d ≤ 2 ^ 41 = omega (arith, ints) in
    let s = abs_bound d a b in
    let same : unsigned_abs (d *ℤ d) ≡ unsigned_abs d * unsigned_abs d = ap unsigned_abs (square_abs d) in
    let fits : FitsSigned w128 d = fits_signed_from_abs w128 d (omega arith) in
    let fits2 : FitsSigned w128 (d *ℤ d) = fits_signed_from_abs w128 (d *ℤ d) (omega arith) in
    rw (to_z-of_z w128 d fits, to_z-of_z w128 (d *ℤ d) fits2) refl

pub sum_fits : (x y : ℤ) → (pos 0 ≤ℤ x) × (x ≤ℤ pos (2 ^ 82)) → (pos 0 ≤ℤ y) × (y ≤ℤ pos (2 ^ 82)) → FitsSigned w128 (x +ℤ y)
sum_fits x y p q = fits_signed_from_abs w128 (x +ℤ y) (omega (arith, ints, p.0, p.1, q.0, q.1))
