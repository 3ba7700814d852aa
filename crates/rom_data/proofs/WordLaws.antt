-- Bytes of words.
use Rattle.std.proofs.Common.{◌≡◌, ℕ, suc, ◌+◌, ◌*◌, ◌/◌, ◌^◌, ◌<◌, ◌≤◌, ◌↔◌, IsTrue, eqb, length, get_or, drop, List, [], ◌∷◌, sym, subst, length-drop, arith}
use Rattle.std.proofs.Math.Nat.{pow-le-pow_right, div-eq_of_lt, div-lt_iff_lt-mul}
use Rattle.std.proofs.lemmas.Bool.{eqb-true, eq-eqb}
use Rattle.std.proofs.lemmas.List.{get_or-drop}
use Rattle.std.proofs.lemmas.Nat.{pow_pos}
use Rattle.rom_data.specs.Words.{little_endian, FitsWord}

one_byte_more : (byte rest n : ℕ) → byte < 256 → rest < 256 ^ n → byte + 256 * rest < 256 ^ suc n
one_byte_more byte rest n small below = omega arith

-- as many bytes have a number below that power of 256
little_endian_below : (bytes : List ℕ) → ((k : ℕ) → get_or bytes k 0 < 256) → little_endian bytes < 256 ^ length bytes
little_endian_below [] each = omega arith
little_endian_below (byte ∷ bytes) each =
    one_byte_more byte (little_endian bytes) (length bytes) (each 0) (little_endian_below bytes (λ k. each (suc k)))

-- seven bytes, and one more below them, have a number below 2^64
pub seven_bytes : (bytes : List ℕ) (i n : ℕ) → length bytes ≤ 8 → 0 < i → ((k : ℕ) → get_or bytes k 0 < 256) → n ≡ little_endian (drop i bytes) → n < 256 ^ 7
seven_bytes bytes i n few some each is =
    let below = little_endian_below (drop i bytes) (λ k. subst (λ (b : ℕ). b < 256) (sym (get_or-drop i bytes k 0)) (each (i + k))) in
    let most : 256 ^ length (drop i bytes) ≤ 256 ^ 7 = pow-le-pow_right {n = 256} (omega arith) {i = length (drop i bytes)} {j = 7} (omega (arith, length-drop i bytes)) in
    omega (arith, below, most, is)

-- no bit from one on
pub fits_as_shifted : (word size : ℕ) → IsTrue (eqb (word / 2 ^ size) 0) ↔ FitsWord size word
fits_as_shifted word size = (
  λ none. let low = (div-lt_iff_lt-mul {k = 2 ^ size} {x = word} {y = 1} (pow_pos size)).0 (omega (arith, eqb-true (word / 2 ^ size) 0 none)) in omega (arith, low),
  λ fits. eq-eqb (word / 2 ^ size) 0 (div-eq_of_lt fits),
)
