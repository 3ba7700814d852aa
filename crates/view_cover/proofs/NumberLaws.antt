-- Numbers of a floorplan: rails, tracks and banks side by side.
use Rattle.std.proofs.Common.{◌≡◌, ℕ, ◌+◌, ◌*◌, ◌<◌, ◌≤◌, ℤ, pos, negsuc, ◌+ℤ◌, ◌*ℤ◌, ◌≤ℤ◌, arith}
use Rattle.std.proofs.Math.Nat.{mul-le-mul_right, suc-mul}
use Rattle.std.proofs.lemmas.Int.{ints}

-- so many and one more
pub one_more : (n b : ℕ) → (n + 1) * b ≡ n * b + b
one_more n b = let more = suc-mul n b in omega (arith, more)

-- items before the last of so many, and one more, are at most all
pub all_of : (i n b : ℕ) → i < n → i * b + b ≤ n * b
all_of i n b lt = let le = mul-le-mul_right b lt in let more = suc-mul i b in omega (arith, le, more)

-- the same where the item has a size of its own
pub some_of : (i n b w : ℕ) → i < n → w ≤ b → i * b + w ≤ n * b
some_of i n b w lt small = let le = all_of i n b lt in omega (arith, le, small)

-- a bank further left, of so many
pub banks_before : (b n : ℕ) (w : ℤ) → b < n → pos 0 ≤ℤ w → ((pos b *ℤ w) +ℤ w) ≤ℤ (pos n *ℤ w)
banks_before b n (pos w) lt low = let le = all_of b n w lt in omega (arith, ints, le)
banks_before b n (negsuc w) lt low = absurd (omega (arith, ints, low))

pub banks_right : (b : ℕ) (w : ℤ) → pos 0 ≤ℤ w → pos 0 ≤ℤ (pos b *ℤ w)
banks_right b (pos w) low = omega (arith, ints)
banks_right b (negsuc w) low = absurd (omega (arith, ints, low))

-- rails and tracks stand pitches apart
pub pitches_before : (i n : ℕ) (p : ℤ) → i < n → pos 0 ≤ℤ p → (pos (i + 1) *ℤ p) ≤ℤ (pos n *ℤ p)
pitches_before i n (pos p) lt low = let le = mul-le-mul_right p lt in omega (arith, ints, le)
pitches_before i n (negsuc p) lt low = absurd (omega (arith, ints, low))

pub pitch_before : (i : ℕ) (p : ℤ) → pos 0 ≤ℤ p → p ≤ℤ (pos (i + 1) *ℤ p)
pitch_before i (pos p) low = let le = one_more i p in omega (arith, ints, le)
pitch_before i (negsuc p) low = absurd (omega (arith, ints, low))

pub pitch_more : (i : ℕ) (p : ℤ) → (pos (i + 1) *ℤ p) ≡ ((pos i *ℤ p) +ℤ p)
pitch_more i (pos p) = let le = one_more i p in omega (arith, ints, le)
pitch_more i (negsuc p) = let le = one_more i p in omega (arith, ints, le)
