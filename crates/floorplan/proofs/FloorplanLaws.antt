-- Sums of the floorplan as they are computed.
use Rattle.std.proofs.Common.{◌≡◌, ℕ, ◌+◌, ◌*◌, ◌≤◌, ℤ, pos, ◌+ℤ◌, ◌≤ℤ◌, w64, to_z, ap, ◌∙◌, arith}
use Rattle.std.proofs.lemmas.Int.{ints}
use Rattle.floorplan.specs.FloorplanNumbers.{IsUpTo, IsFloorplanLength}

-- within the room of a floorplan
abbrev pub limit : ℕ
limit = 1073741824

pub next : (n m k : ℕ) → n + m ≤ limit → m ≡ k → to_z w64 (n + m) ≡ to_z w64 n +ℤ pos k
next n m k le is = omega (arith, ints, le, is)

pub next_channel : (n s h k : ℕ) (z : ℤ) → n + s + h ≤ limit → s ≡ k → pos h ≡ z → to_z w64 (n + s + h) ≡ (to_z w64 n +ℤ pos k) +ℤ z
next_channel n s h k z le side height = omega (arith, ints, le, side, height)

pub first_channel : (s h k : ℕ) (z : ℤ) → s + h ≤ limit → s ≡ k → pos h ≡ z → to_z w64 (s + h) ≡ pos k +ℤ z
first_channel s h k z le side height = omega (arith, ints, le, side, height)

pub next_bank : (n g d e kg kd k : ℕ) → n + g + d + e ≤ limit → g ≡ kg → d ≡ kd → e ≡ k → to_z w64 (n + g + d + e) ≡ (to_z w64 n +ℤ pos (kg + kd)) +ℤ pos k
next_bank n g d e kg kd k le gate drive columns = omega (arith, ints, le, gate, drive, columns)

pub rows_high : (e a b c d : ℕ) → e ≡ a * b → a ≡ c → b ≡ d → e ≡ c * d
rows_high e a b c d is first second = is ∙ (ap (λ (n : ℕ). n * b) first ∙ ap (λ (n : ℕ). c * n) second)

pub placed : (n : ℕ) → n ≤ limit → IsFloorplanLength (to_z w64 n)
placed n le = record { above = omega (arith, ints, le); below = omega (arith, ints, le) }

-- and nearer
pub placed_near : (n most : ℕ) → n ≤ most → most ≤ limit → IsUpTo most (to_z w64 n)
placed_near n most le few = record { above = omega (arith, ints, le, few); below = omega (arith, ints, le, few) }

pub kept : (n : ℕ) → n ≤ limit → to_z w64 n ≡ pos n
kept n le = omega (arith, ints, le)

pub columns_within : (n g d e : ℕ) → n + g + d + e ≤ limit → (to_z w64 n +ℤ pos (g + d)) ≤ℤ to_z w64 (n + g + d + e)
columns_within n g d e le = omega (arith, ints, le)
