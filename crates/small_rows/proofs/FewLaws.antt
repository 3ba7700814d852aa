-- Numbers among so many, and their counterparts among few.
use Rattle.std.proofs.Common.{◌≡◌, ◌⊎◌, inl, inr, ◌∙◌, ℕ, zero, suc, ◌+◌, ◌-◌, ◌*◌, ◌<◌, ◌≤◌, refl, ap, arith}
use Rattle.std.proofs.Math.Nat.{add-mul, mul-le-mul_right}
use Rattle.std.proofs.lemmas.Bool.{cases_lt}
use Rattle.small_rows.specs.Few.{IsAmongFew}

abbrev pub IsFewOf : ℕ → ℕ → Type 0
IsFewOf n k = ((k ≡ n) × (k ≤ 4)) ⊎ ((k ≡ 4) × (4 ≤ n))

pub among_few : (n k q : ℕ) → q < n → IsFewOf n k → (m : ℕ) × IsAmongFew n k q m
among_few n k q lt (inl all) = let e = all.0 in (0, record { d = q; sum = omega arith; inside = omega (arith, e, lt); within = omega (arith, e); next = λ h. omega (arith, e, h); left = inl refl; right = inl (omega (arith, e)) })
among_few n k zero lt (inr four) = let e = four.0 in let g = four.1 in (0, record { d = 0; sum = refl; inside = omega (arith, e); within = omega (arith, e, g); next = λ h. omega (arith, e); left = inl refl; right = inr (omega (arith, e)) })
among_few n k (suc q) lt (inr four) =
    let e = four.0 in
    let g = four.1 in
    elim (cases_lt (q + 4) n) [
      | inl low ↦ (q, record { d = 1; sum = omega arith; inside = omega (arith, e); within = omega (arith, e, low); next = λ h. omega (arith, e); left = inr (omega arith); right = inr (omega (arith, e)) })
      | inr high ↦ (n - 4, record { d = (suc q + 4) - n; sum = omega (arith, g, high); inside = omega (arith, e, g, lt, high); within = omega (arith, e, g); next = λ h. omega (arith, e, g, h, high); left = inr (omega (arith, g, high)); right = inl (omega (arith, e, g)) })
    ]

-- so many units make a number
pub record IsSplitBy (w c : ℕ) : Type 0 where
  pub q : ℕ
  pub r : ℕ
  pub sum : c ≡ q * w + r
  pub less : r < w

pub split_by : (w c : ℕ) → 1 ≤ w → IsSplitBy w c
split_by w zero some = record { q = 0; r = 0; sum = omega arith; less = omega (arith, some) }
split_by w (suc c) some =
    let s = split_by w c some in
    let e = s.sum in
    let lt = s.less in
    elim (cases_lt (s.r + 1) w) [
      | inl more ↦ record { q = s.q; r = s.r + 1; sum = omega (arith, e); less = more }
      | inr full ↦ record { q = s.q + 1; r = 0; sum = (let a = add-mul s.q 1 w in omega (arith, e, lt, full, a)); less = omega (arith, some) }
    ]

below : (q n w r : ℕ) → q * w + r < n * w → q < n
below q n w r lt = elim (cases_lt q n) [
  | inl le ↦ le
  | inr ge ↦ let g = mul-le-mul_right w ge in absurd (omega (arith, g, lt))
]

-- columns, where slices have counterparts
pub among_columns : (n k w c q r m : ℕ) → c ≡ q * w + r → r < w → IsAmongFew n k q m → IsAmongFew (n * w) (k * w) c (m * w)
among_columns n k w c q r m is lt few =
    let e = few.sum in
    let a : q * w ≡ few.d * w + m * w = ap (λ (x : ℕ). x * w) e ∙ add-mul few.d m w in
    let i = few.inside in
    let up : (few.d + 1) * w ≤ k * w = mul-le-mul_right w (let g : few.d + 1 ≤ k = omega (arith, i) in g) in
    let one = add-mul few.d 1 w in
    record {
      d = few.d * w + r;
      sum = omega (arith, is, a);
      inside = omega (arith, up, one, lt);
      within = (let g : (k + m) * w ≤ n * w = mul-le-mul_right w few.within in let b = add-mul k m w in omega (arith, g, b));
      next = λ h. next h up one a;
      left = left few.left;
      right = right few.right;
    }
  where
    next : c + 1 < n * w → (few.d + 1) * w ≤ k * w → (few.d + 1) * w ≡ few.d * w + 1 * w → q * w ≡ few.d * w + m * w → (few.d * w + r) + 1 < k * w
    next h up one a = elim (cases_lt (r + 1) w) [
      | inl more ↦ omega (arith, up, one, more)
      | inr full ↦
          let b = add-mul q 1 w in
          let q_in : q + 1 < n = below (q + 1) n w 0 (omega (arith, h, is, b, full, lt)) in
          let g = few.next q_in in
          let h2 : (few.d + 2) * w ≤ k * w = mul-le-mul_right w (let g2 : few.d + 2 ≤ k = omega (arith, g) in g2) in
          let two = add-mul few.d 2 w in
          omega (arith, h2, two, full, lt)
    ]

    zero_of : (w m : ℕ) → m ≡ 0 → m * w ≡ 0
    zero_of w m z = ap (λ (x : ℕ). x * w) z ∙ nothing w where
      nothing : (w : ℕ) → 0 * w ≡ 0
      nothing w = omega arith

    left : (m ≡ 0) ⊎ (1 ≤ few.d) → (m * w ≡ 0) ⊎ (1 ≤ few.d * w + r)
    left (inl none) = inl (zero_of w m none)
    left (inr some) = let g : 1 * w ≤ few.d * w = mul-le-mul_right w some in inr (omega (arith, g, lt))

    right : (n ≡ k + m) ⊎ (few.d + 3 ≤ k) → (n * w ≡ k * w + m * w) ⊎ ((few.d * w + r) + 3 ≤ k * w)
    right (inl all) = inl (ap (λ (x : ℕ). x * w) all ∙ add-mul k m w)
    right (inr more) =
        let g = mul-le-mul_right w more in
        let three = add-mul few.d 3 w in
        inr (omega (arith, g, three, lt))
