-- The order in which nets get their tracks: by left end, then by number.
use Rattle.std.specs.Prelude.{◌≡◌, ◌⊎◌, ℕ, ◌<◌, ℤ, ◌<ℤ◌, List, length, slice_get, Some}
use Rattle.channel_router.specs.declared.channel.Interval.{Interval}

-- each net once, with its left end, and those that are taken before stand before
pub record IsTakingOrder (intervals : List Interval) (order : List (ℤ × ℕ)) : Type 0 where
  pub sized : length order ≡ length intervals
  pub each : (i : ℕ) (a : Interval) → slice_get intervals i ≡ Some a → (p : ℕ) × (slice_get order p ≡ Some (a.left, i))
  pub only : (p i : ℕ) (x : ℤ) → slice_get order p ≡ Some (x, i) → (a : Interval) × (slice_get intervals i ≡ Some a) × (x ≡ a.left)
  pub rises : (p q i j : ℕ) (x y : ℤ) → p < q → slice_get order p ≡ Some (x, i) → slice_get order q ≡ Some (y, j) → (x <ℤ y) ⊎ ((x ≡ y) × (i < j))

-- the net stands at a place below k
pub record IsTaken (order : List (ℤ × ℕ)) (k i : ℕ) : Type 0 where
  pub p : ℕ
  pub left : ℤ
  pub before : p < k
  pub at : slice_get order p ≡ Some (left, i)
