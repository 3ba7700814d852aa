-- What stands at a place after a write, and where nets stand in their order.
use Rattle.std.proofs.Common.{◌≡◌, ◌⊎◌, inl, inr, ℕ, zero, suc, ◌<◌, ℤ, ◌<ℤ◌, List, [], ◌∷◌, length, refl, sym, ap, ◌∙◌, arith}
use Rattle.std.specs.Prelude.{slice_get, slice_set, Some}
use Rattle.std.proofs.lemmas.Bool.{cases_order}
use Rattle.std.proofs.lemmas.Int.{ints}
use Rattle.or_geom.proofs.ListLaws.{one_at}
use Rattle.channel_router.specs.declared.channel.Interval.{Interval}
use Rattle.channel_router.specs.Order.{IsTakingOrder}
use Rattle.channel_router.specs.Tracks.{IsTakenBefore}

pub set_same : {X : Type 0} (xs : List X) (i : ℕ) (x : X) → i < length xs → slice_get (slice_set xs i x) i ≡ Some x
set_same [] i x lt = absurd (omega arith)
set_same (y ∷ ys) zero x lt = refl
set_same (y ∷ ys) (suc i) x lt = set_same ys i x (omega arith)

pub set_other : {X : Type 0} (xs : List X) (i j : ℕ) (x : X) → (j ≡ i → ⊥) → slice_get (slice_set xs i x) j ≡ slice_get xs j
set_other [] i j x other = refl
set_other (y ∷ ys) zero zero x other = absurd (other refl)
set_other (y ∷ ys) zero (suc j) x other = refl
set_other (y ∷ ys) (suc i) zero x other = refl
set_other (y ∷ ys) (suc i) (suc j) x other = set_other ys i j x (λ e. other (ap suc e))

-- a net that is taken before another stands before it
pub before_place : (intervals : List Interval) (order : List (ℤ × ℕ)) (p i j : ℕ) (x : ℤ) (a b : Interval) → IsTakingOrder intervals order → slice_get order p ≡ Some (x, j) → slice_get intervals i ≡ Some a → slice_get intervals j ≡ Some b → IsTakenBefore i a j b
    → (q : ℕ) × (q < p) × (slice_get order q ≡ Some (a.left, i))
before_place intervals order p i j x a b o at_p at_i at_j before =
    let place = o.each i a at_i in
    let net = o.only p j x at_p in
    let left : x ≡ b.left = net.2 ∙ ap (λ (c : Interval). c.left) (one_at intervals j net.0 b net.1 at_j) in
    elim (cases_order place.0 p) [
      | inr (inl less) ↦ (place.0, less, place.1)
      | inl same ↦
          let e = one_at order p (a.left, i) (x, j) (ap (λ (q : ℕ). slice_get order q) (sym same) ∙ place.1) at_p in
          absurd (never left (ap (λ (z : ℤ × ℕ). z.0) e) (ap (λ (z : ℤ × ℕ). z.1) e) before)
      | inr (inr more) ↦ absurd (not_after left (o.rises p place.0 j i x a.left more at_p place.1) before)
    ] where
      never : x ≡ b.left → a.left ≡ x → i ≡ j → IsTakenBefore i a j b → ⊥
      never left same one (inl less) = omega (arith, ints, left, same, less)
      never left same one (inr both) = let lt = both.1 in omega (arith, one, lt)

      not_after : x ≡ b.left → (x <ℤ a.left) ⊎ ((x ≡ a.left) × (j < i)) → IsTakenBefore i a j b → ⊥
      not_after left (inl less) (inl more) = omega (arith, ints, left, less, more)
      not_after left (inl less) (inr both) = let e = both.0 in omega (arith, ints, left, less, e)
      not_after left (inr same) (inl more) = let e = same.0 in omega (arith, ints, left, e, more)
      not_after left (inr same) (inr both) = let lt = same.1 in let gt = both.1 in omega (arith, lt, gt)
