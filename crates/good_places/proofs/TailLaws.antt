-- Small memories have a column or a slice that stands at the end as one does here: the last, or the last but one.
use Rattle.std.proofs.Common.{◌≡◌, ◌⊎◌, inl, inr, ◌∙◌, ℕ, ◌+◌, ◌-◌, ◌*◌, ◌<◌, ◌≤◌, sym, ap, subst, arith}
use Rattle.std.specs.Prelude.{◌↔◌}
use Rattle.std.proofs.lemmas.Bool.{cases_lt}
use Rattle.good_places.specs.Beside.{AreAtOneEdge, AreNextToLast}
use Rattle.good_places.specs.Neighbours.{AreManyAlike}

-- as many, or at least four
abbrev pub AreEnough : ℕ → ℕ → Type 0
AreEnough n m = (n ≡ m) ⊎ ((4 ≤ n) × (4 ≤ m))

pub record HasTail (n c m : ℕ) : Type 0 where
  pub d : ℕ
  pub edge : AreAtOneEdge n c m d
  pub next : AreNextToLast n c m d

tail_at : (n c m d : ℕ) → c < n → d < m → (c ≡ 0 → d ≡ 0) → (d ≡ 0 → c ≡ 0) → (c + 1 ≡ n → d + 1 ≡ m) → (d + 1 ≡ m → c + 1 ≡ n) → (c + 2 ≡ n → d + 2 ≡ m) → (d + 2 ≡ m → c + 2 ≡ n) → HasTail n c m
tail_at n c m d a b p q r s t u = record { d = d; edge = record { here = a; there = b; first = (p, q); last = (r, s) }; next = (t, u) }

-- behind the first
later_tail : (n c m : ℕ) → 4 ≤ n → 4 ≤ m → 0 < c → c < n → HasTail n c m
later_tail n c m many more some lt = elim (cases_lt (c + 2) n) [
  | inl inner ↦
      tail_at n c m 1 lt (omega (arith, more)) (λ e. absurd (omega (arith, e, some))) (λ e. absurd (omega (arith, e))) (λ e. absurd (omega (arith, e, inner))) (λ e. absurd (omega (arith, e, more))) (λ e. absurd (omega (arith, e, inner))) (λ e. absurd (omega (arith, e, more)))
  | inr late ↦ elim (cases_lt (c + 1) n) [
    | inl inner ↦
        tail_at n c m (m - 2) lt (omega (arith, more)) (λ e. absurd (omega (arith, e, some))) (λ e. absurd (omega (arith, e, more))) (λ e. absurd (omega (arith, e, inner))) (λ e. absurd (omega (arith, e, more))) (λ e. omega (arith, more)) (λ e. omega (arith, inner, late))
    | inr last ↦
        tail_at n c m (m - 1) lt (omega (arith, more)) (λ e. absurd (omega (arith, e, some))) (λ e. absurd (omega (arith, e, more))) (λ e. omega (arith, more)) (λ e. omega (arith, lt, last)) (λ e. absurd (omega (arith, e, last))) (λ e. absurd (omega (arith, e, more)))
  ]
]

pub has_tail : (n c m : ℕ) → AreEnough n m → c < n → HasTail n c m
has_tail n c m (inl same) lt = tail_at n c m c lt (subst (λ (k : ℕ). c < k) same lt) (λ e. e) (λ e. e) (λ e. e ∙ same) (λ e. e ∙ sym same) (λ e. e ∙ same) (λ e. e ∙ sym same)
has_tail n c m (inr many) lt = elim (cases_lt 0 c) [
  | inl some ↦ later_tail n c m many.0 many.1 some lt
  | inr none ↦
      let a = many.0 in
      let b = many.1 in
      tail_at n c m 0 lt (omega (arith, b)) (λ e. omega arith) (λ e. omega (arith, none)) (λ e. absurd (omega (arith, e, none, a))) (λ e. absurd (omega (arith, e, b))) (λ e. absurd (omega (arith, e, none, a))) (λ e. absurd (omega (arith, e, b)))
]

pub many_alike : (n m : ℕ) → AreEnough n m → AreManyAlike n m
many_alike n m (inl same) = inl same
many_alike n m (inr many) = let a = many.0 in let b = many.1 in inr (omega (arith, a), omega (arith, b))

-- the small memory has as many bits, but at most four
pub record IsFew (n k : ℕ) : Type 0 where
  pub some : 1 ≤ k
  pub few : k ≤ 4
  pub many : AreEnough n k

pub few_bits : (n : ℕ) → 0 < n → (k : ℕ) × IsFew n k
few_bits n some = elim (cases_lt n 4) [
  | inl lt ↦ (n, record { some = omega (arith, some); few = omega (arith, lt); many = inl (omega arith) })
  | inr ge ↦ (4, record { some = omega arith; few = omega arith; many = inr (omega (arith, ge), omega arith) })
]

-- so many words make so many columns
pub many_columns : (n k w : ℕ) → 1 ≤ w → AreEnough n k → AreEnough (n * w) (k * w)
many_columns n k w some (inl same) = inl (ap (λ (m : ℕ). m * w) same)
many_columns n k w some (inr many) = inr (at_least n w 4 some many.0, at_least k w 4 some many.1) where
  at_least : (n w m : ℕ) → 1 ≤ w → m ≤ n → m ≤ n * w
  at_least n w m some le = let a = times n w some in omega (arith, a, le) where
    times : (n w : ℕ) → 1 ≤ w → n ≤ n * w
    times n w some = grind (arith, some)
