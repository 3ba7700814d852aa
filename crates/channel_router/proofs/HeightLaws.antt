-- Multiples of the pitch.
use Rattle.std.proofs.Common.{◌≡◌, ℕ, ◌+◌, ◌*◌, ◌<◌, ◌≤◌, ℤ, pos, negsuc, ◌+ℤ◌, ◌*ℤ◌, ◌≤ℤ◌, w64, FitsSigned, to_z, of_z, refl, arith}
use Rattle.std.proofs.Math.Nat.{mul-le-mul_left}
use Rattle.std.proofs.lemmas.Int.{ints, to_z-of_z}

nat_bound : (t p : ℕ) → t < 4294967296 → p ≤ 131072 → t * p ≤ 562949953421312
nat_bound t p lt high = let le = mul-le-mul_left t high in omega (arith, le, lt)

nat_apart : (t n p : ℕ) → t < n → t * p + p ≤ n * p
nat_apart t n p lt = let h : t + 1 ≤ n = omega (arith, lt) in let le = mul-le-mul_left p h in omega (arith, le)

-- a multiple of the pitch is not negative and is at most 2^49
pub product_bound : (t : ℕ) (pitch : ℤ) → t < 4294967296 → pos 0 ≤ℤ pitch → pitch ≤ℤ pos 131072 → (pos 0 ≤ℤ (pos t *ℤ pitch)) × ((pos t *ℤ pitch) ≤ℤ pos 562949953421312)
product_bound t (pos p) lt low high = let le = nat_bound t p lt (omega (arith, ints, high)) in (omega (arith, ints, le), omega (arith, ints, le))
product_bound t (negsuc p) lt low high = absurd (omega (arith, ints, low))

-- a track is a pitch below the next, and below all that follow
pub pitch_apart : (t n : ℕ) (pitch : ℤ) → t < n → pos 0 ≤ℤ pitch → ((pos t *ℤ pitch) +ℤ pitch) ≤ℤ (pos n *ℤ pitch)
pitch_apart t n (pos p) lt low = let le = nat_apart t n p lt in omega (arith, ints, le)
pitch_apart t n (negsuc p) lt low = absurd (omega (arith, ints, low))

-- the sum as it is computed
pub height_kept : (w s n : ℤ) → FitsSigned w64 w → FitsSigned w64 s → FitsSigned w64 n → FitsSigned w64 (w +ℤ s) → FitsSigned w64 (n *ℤ (w +ℤ s)) → FitsSigned w64 (s +ℤ (n *ℤ (w +ℤ s)))
    → to_z w64 (of_z w64 (to_z w64 (of_z w64 s) +ℤ to_z w64 (of_z w64 (to_z w64 (of_z w64 n) *ℤ to_z w64 (of_z w64 (to_z w64 (of_z w64 w) +ℤ to_z w64 (of_z w64 s))))))) ≡ s +ℤ (n *ℤ (w +ℤ s))
height_kept w s n fits_w fits_s fits_n fits_p fits_m fits_all =
    rw (to_z-of_z w64 s fits_s, to_z-of_z w64 n fits_n, to_z-of_z w64 w fits_w, to_z-of_z w64 (w +ℤ s) fits_p, to_z-of_z w64 (n *ℤ (w +ℤ s)) fits_m, to_z-of_z w64 (s +ℤ (n *ℤ (w +ℤ s))) fits_all) refl
