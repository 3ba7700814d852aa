-- Where the last of so many stands, and one of them, in a memory and in a small one.
use Rattle.std.proofs.Common.{◌≡◌, ◌⊎◌, inl, inr, ◌∙◌, ℕ, ◌+◌, ◌*◌, ◌<◌, ◌≤◌, ap, arith}
use Rattle.std.proofs.Math.Nat.{mul-le-mul_right}
use Rattle.std.proofs.lemmas.Bool.{cases_lt}
use Rattle.good_places.specs.Beside.{AreAtOneEdge, AreNextToLast}

-- at one place, next to each other, or further away, in both memories
pub record IsPlacedAt (w c d last end : ℕ) : Type 0 where
  pub at : ((last ≡ c) × (end ≡ d)) ⊎ (((last ≡ c + w) × (end ≡ d + w)) ⊎ ((c + (w + w) ≤ last) × (d + (w + w) ≤ end)))

pub tail_places : (w n c m d p q : ℕ) → AreAtOneEdge n c m d → AreNextToLast n c m d → p + 1 ≡ n → q + 1 ≡ m → IsPlacedAt w (c * w) (d * w) (p * w) (q * w)
tail_places w n c m d p q edge next_is a b = record {
  at = elim (cases_lt (c + 1) n) [
    | inl inner ↦ elim (cases_lt (c + 2) n) [
      | inl far ↦ inr (inr (beyond w c p (omega (arith, far, a)), beyond w d q (not_near (cases_lt (d + 2) m) far)))
      | inr late ↦ let e : c + 2 ≡ n = omega (arith, inner, late) in let g = next_is.0 e in inr (inl (next w c p (omega (arith, e, a)), next w d q (omega (arith, g, b))))
    ]
    | inr last ↦ let h = edge.here in let e : c + 1 ≡ n = omega (arith, last, h) in let g = edge.last.0 e in inl (ap (λ (k : ℕ). k * w) (omega (arith, e, a)), ap (λ (k : ℕ). k * w) (omega (arith, g, b)))
  ];
} where
  beyond : (w c p : ℕ) → c + 2 ≤ p → c * w + (w + w) ≤ p * w
  beyond w c p le = let more = mul-le-mul_right w le in let sum : (c + 2) * w ≡ c * w + (w + w) = grind arith in omega (arith, more, sum)

  next : (w c p : ℕ) → p ≡ c + 1 → p * w ≡ c * w + w
  next w c p e = let sum : (c + 1) * w ≡ c * w + w = grind arith in ap (λ (k : ℕ). k * w) e ∙ sum

  not_near : (d + 2 < m) ⊎ (m ≤ d + 2) → c + 2 < n → d + 2 ≤ q
  not_near (inl far) lt = omega (arith, far, b)
  not_near (inr late) lt =
      let h = edge.there in
      elim (cases_lt (d + 1) m) [
        | inl inner ↦ let e = next_is.1 (omega (arith, late, inner)) in absurd (omega (arith, e, lt))
        | inr last ↦ let e = edge.last.1 (omega (arith, last, h)) in absurd (omega (arith, e, lt))
      ]
