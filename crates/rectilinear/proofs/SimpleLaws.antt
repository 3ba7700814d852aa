-- Sides that meet.
use Rattle.std.proofs.Common.{◌≡◌, ◌⊎◌, inl, inr, ℤ, ◌≤ℤ◌, ◌<ℤ◌, Bool, false, ◌↔◌, IsTrue, ap, sym, subst, arith}
use Rattle.std.proofs.lemmas.Int.{ints, clamps, by_lt_z}
use Rattle.std.specs.Int.{int_max, int_min}
use Rattle.or_geom.specs.declared.shape.Point.{Point}
use Rattle.or_geom.proofs.PlaceLaws.{same_point}
use Rattle.rectilinear.specs.declared.ring.RingSide.{RingSide}
use Rattle.rectilinear.specs.declared.simple.Extent.{Extent}
use Rattle.rectilinear.specs.Simple.{LiesBetween, MeetAtMostThere}
use Rattle.rectilinear.specs.Extents.{IsExtentOf, IsCommon, IsExtentAround, IsAtMostPoint}

pub both_at_most : (s t : RingSide) (e f both : Extent) → IsExtentOf s e → IsExtentOf t f → IsCommon e f both → IsAtMostPoint both s.b → IsAtMostPoint both t.a → MeetAtMostThere s t
both_at_most s t e f both es ft c a b p on_s on_t = let in_both = c.each p (es.each p on_s) (ft.each p on_t) in (a p in_both, b p in_both)

pub at_most_both : (s t : RingSide) (e f both : Extent) → IsExtentOf s e → IsExtentOf t f → IsCommon e f both → MeetAtMostThere s t → IsAtMostPoint both s.b × IsAtMostPoint both t.a
at_most_both s t e f both es ft c meet =
    (λ q h. (meet q (es.only q (c.first q h)) (ft.only q (c.second q h))).0, λ q h. (meet q (es.only q (c.first q h)) (ft.only q (c.second q h))).1)

pub empty_x : (e : Extent) (p : Point) → e.high.x <ℤ e.low.x → IsAtMostPoint e p
empty_x e p lt q h = absurd (omega (arith, ints, h.left, h.right))

pub empty_y : (e : Extent) (p : Point) → e.high.y <ℤ e.low.y → IsAtMostPoint e p
empty_y e p lt q h = absurd (omega (arith, ints, h.low, h.high))

pub one_point : (e : Extent) (p : Point) → e.low ≡ p → e.high ≡ p → IsAtMostPoint e p
one_point e p l h q w =
    let lx : e.low.x ≡ p.x = ap (λ (z : Point). z.x) l in let ly : e.low.y ≡ p.y = ap (λ (z : Point). z.y) l in
    let hx : e.high.x ≡ p.x = ap (λ (z : Point). z.x) h in let hy : e.high.y ≡ p.y = ap (λ (z : Point). z.y) h in
    same_point q p (omega (arith, ints, w.left, w.right)) (omega (arith, ints, w.low, w.high))

pub is_low : (e : Extent) (p : Point) → e.low.x ≤ℤ e.high.x → e.low.y ≤ℤ e.high.y → IsAtMostPoint e p → e.low ≡ p
is_low e p wide tall most = most e.low (record { left = omega (arith, ints); right = wide; low = omega (arith, ints); high = tall })

pub is_high : (e : Extent) (p : Point) → e.low.x ≤ℤ e.high.x → e.low.y ≤ℤ e.high.y → IsAtMostPoint e p → e.high ≡ p
is_high e p wide tall most = most e.high (record { left = wide; right = omega (arith, ints); low = tall; high = omega (arith, ints) })

between : (a z b : ℤ) → LiesBetween a z b → (int_min a b ≤ℤ z) × (z ≤ℤ int_max a b)
between a z b (inl h) = (omega (arith, ints, clamps, h.0, h.1), omega (arith, ints, clamps, h.0, h.1))
between a z b (inr h) = (omega (arith, ints, clamps, h.0, h.1), omega (arith, ints, clamps, h.0, h.1))

is_between : (a z b : ℤ) → int_min a b ≤ℤ z → z ≤ℤ int_max a b → LiesBetween a z b
is_between a z b f g = by_lt_z a b (λ lt. inl (omega (arith, ints, clamps), omega (arith, ints, clamps))) (λ ge. inr (omega (arith, ints, clamps), omega (arith, ints, clamps)))

pub extent_law : (s : RingSide) (e : Extent) → e.low.x ≡ int_min s.a.x s.b.x → e.low.y ≡ int_min s.a.y s.b.y → e.high.x ≡ int_max s.a.x s.b.x → e.high.y ≡ int_max s.a.y s.b.y → IsExtentOf s e
extent_law s e lx ly hx hy = record {
  each = λ p on. let x = between _ _ _ on.in_x in let y = between _ _ _ on.in_y in
      record { left = subst (λ (z : ℤ). z ≤ℤ p.x) (sym lx) x.0; right = subst (λ (z : ℤ). p.x ≤ℤ z) (sym hx) x.1; low = subst (λ (z : ℤ). z ≤ℤ p.y) (sym ly) y.0; high = subst (λ (z : ℤ). p.y ≤ℤ z) (sym hy) y.1 };
  only = λ p w. record {
    in_x = is_between _ _ _ (subst (λ (z : ℤ). z ≤ℤ p.x) lx w.left) (subst (λ (z : ℤ). p.x ≤ℤ z) hx w.right);
    in_y = is_between _ _ _ (subst (λ (z : ℤ). z ≤ℤ p.y) ly w.low) (subst (λ (z : ℤ). p.y ≤ℤ z) hy w.high);
  };
}

pub common_law : (e f both : Extent) → both.low.x ≡ int_max e.low.x f.low.x → both.low.y ≡ int_max e.low.y f.low.y → both.high.x ≡ int_min e.high.x f.high.x → both.high.y ≡ int_min e.high.y f.high.y → IsCommon e f both
common_law e f both lx ly hx hy = record {
  each = λ p v w. record { left = omega (arith, ints, clamps, v.left, w.left, lx); right = omega (arith, ints, clamps, v.right, w.right, hx); low = omega (arith, ints, clamps, v.low, w.low, ly); high = omega (arith, ints, clamps, v.high, w.high, hy) };
  first = λ p w. record { left = omega (arith, ints, clamps, w.left, lx); right = omega (arith, ints, clamps, w.right, hx); low = omega (arith, ints, clamps, w.low, ly); high = omega (arith, ints, clamps, w.high, hy) };
  second = λ p w. record { left = omega (arith, ints, clamps, w.left, lx); right = omega (arith, ints, clamps, w.right, hx); low = omega (arith, ints, clamps, w.low, ly); high = omega (arith, ints, clamps, w.high, hy) };
}

pub neighbours_last : (s t : RingSide) (a b : Bool) → (IsTrue a ↔ MeetAtMostThere s t) → (IsTrue b ↔ MeetAtMostThere t s) → a ≡ false → IsTrue b ↔ (MeetAtMostThere s t ⊎ MeetAtMostThere t s)
neighbours_last s t a b ha hb f = (λ yes. inr (hb.0 yes), λ m. elim m [ inl x ↦ (let yes = ha.1 x in absurd cc) | inr x ↦ hb.1 x ])

pub around_law : (e f both : Extent) → both.low.x ≡ int_min e.low.x f.low.x → both.low.y ≡ int_min e.low.y f.low.y → both.high.x ≡ int_max e.high.x f.high.x → both.high.y ≡ int_max e.high.y f.high.y → IsExtentAround e f both
around_law e f both lx ly hx hy = record {
  first = λ p w. record { left = omega (arith, ints, clamps, w.left, lx); right = omega (arith, ints, clamps, w.right, hx); low = omega (arith, ints, clamps, w.low, ly); high = omega (arith, ints, clamps, w.high, hy) };
  second = λ p w. record { left = omega (arith, ints, clamps, w.left, lx); right = omega (arith, ints, clamps, w.right, hx); low = omega (arith, ints, clamps, w.low, ly); high = omega (arith, ints, clamps, w.high, hy) };
}
