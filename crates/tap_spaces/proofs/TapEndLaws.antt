-- Where taps end in a frame, in a memory and in a small one.
use Rattle.std.proofs.Common.{◌≡◌, ◌⊎◌, inl, inr, ℕ, ◌+◌, ◌≤◌, ℤ, pos, ◌+ℤ◌, ◌-ℤ◌, ◌≤ℤ◌, sym, ap, arith}
use Rattle.std.specs.Int.{int_min}
use Rattle.std.proofs.lemmas.Int.{ints, clamps}
use Rattle.tap_spaces.proofs.TailLaws.{IsPlacedAt}

-- in the frame both end alike, so much further right: at one place, or beyond the frame
pub same_end : (here there dx frame : ℤ) → there ≡ here +ℤ dx → int_min (here +ℤ dx) (frame +ℤ dx) ≡ int_min there (frame +ℤ dx)
same_end here there dx frame e = ap (λ (z : ℤ). int_min z (frame +ℤ dx)) (sym e)

pub far_end : (here there dx frame : ℤ) → frame ≤ℤ here → (frame +ℤ dx) ≤ℤ there → int_min (here +ℤ dx) (frame +ℤ dx) ≡ int_min there (frame +ℤ dx)
far_end here there dx frame a b = omega (arith, ints, clamps, a, b)

-- at the last of so many items, where the frame is around one of them
pub tail_end : (x z off offg dx end frame min : ℤ) (w c d p q : ℕ) → IsPlacedAt w c d p q → x ≡ z → dx ≡ ((z +ℤ pos d) +ℤ offg) -ℤ ((x +ℤ pos c) +ℤ off) → frame ≤ℤ ((((x +ℤ pos c) +ℤ off) +ℤ pos w) +ℤ min) → min ≤ℤ pos w → (x +ℤ pos p) ≤ℤ end
    → int_min ((end +ℤ off) +ℤ dx) (frame +ℤ dx) ≡ int_min ((end +ℤ (pos q -ℤ pos p)) +ℤ offg) (frame +ℤ dx)
tail_end x z off offg dx end frame min w c d p q places s e f n from = by places.at where
  by : ((p ≡ c) × (q ≡ d)) ⊎ (((p ≡ c + w) × (q ≡ d + w)) ⊎ ((c + (w + w) ≤ p) × (d + (w + w) ≤ q))) → int_min ((end +ℤ off) +ℤ dx) (frame +ℤ dx) ≡ int_min ((end +ℤ (pos q -ℤ pos p)) +ℤ offg) (frame +ℤ dx)
  by (inl (a, b)) = same_end (end +ℤ off) ((end +ℤ (pos q -ℤ pos p)) +ℤ offg) dx frame (omega (arith, ints, s, e, a, b))
  by (inr (inl (a, b))) = same_end (end +ℤ off) ((end +ℤ (pos q -ℤ pos p)) +ℤ offg) dx frame (omega (arith, ints, s, e, a, b))
  by (inr (inr (a, b))) = far_end (end +ℤ off) ((end +ℤ (pos q -ℤ pos p)) +ℤ offg) dx frame (omega (arith, ints, f, n, from, a)) (omega (arith, ints, s, e, f, n, from, b))

-- where the frame is around what stands in front of the first
pub front_end : (x z off offg dx end frame min : ℤ) (w p q : ℕ) → ((p ≡ 0) × (q ≡ 0)) ⊎ ((w ≤ p) × (w ≤ q)) → x ≡ z → dx ≡ offg -ℤ off → frame ≤ℤ ((x +ℤ off) +ℤ min) → min ≤ℤ pos w → (x +ℤ pos p) ≤ℤ end
    → int_min ((end +ℤ off) +ℤ dx) (frame +ℤ dx) ≡ int_min ((end +ℤ (pos q -ℤ pos p)) +ℤ offg) (frame +ℤ dx)
front_end x z off offg dx end frame min w p q (inl (a, b)) s e f n from = same_end (end +ℤ off) ((end +ℤ (pos q -ℤ pos p)) +ℤ offg) dx frame (omega (arith, ints, e, a, b))
front_end x z off offg dx end frame min w p q (inr (a, b)) s e f n from = far_end (end +ℤ off) ((end +ℤ (pos q -ℤ pos p)) +ℤ offg) dx frame (omega (arith, ints, f, n, from, a)) (omega (arith, ints, s, e, f, n, from, b))
