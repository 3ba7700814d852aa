-- What can be decided.
use Rattle.std.proofs.Common.{◌≡◌, ◌⊎◌, inl, inr, ℕ, ℤ, ◌≤ℤ◌, ◌<ℤ◌, List, Bool, true, false, refl, arith}
use Rattle.std.specs.Str.{bytes_eq}
use Rattle.std.proofs.lemmas.Int.{ints, by_lt_z}
use Rattle.std.proofs.lemmas.Slice.Eq.{bytes_eq-Decides}

-- it holds, or it doesn't
abbrev pub Decided : Type 0 → Type 0
Decided A = A ⊎ (A → ⊥)

pub decide_both : (A B : Type 0) → Decided A → Decided B → Decided (A × B)
decide_both A B (inl a) (inl b) = inl (a, b)
decide_both A B (inl a) (inr no_b) = inr (λ p. no_b p.1)
decide_both A B (inr no_a) b = inr (λ p. no_a p.0)

pub decide_either : (A B : Type 0) → Decided A → Decided B → Decided (A ⊎ B)
decide_either A B (inl a) b = inl (inl a)
decide_either A B (inr no_a) (inl b) = inl (inr b)
decide_either A B (inr no_a) (inr no_b) = inr (λ h. elim h [ inl a ↦ no_a a | inr b ↦ no_b b ])

pub decide_not : (A : Type 0) → Decided A → Decided (A → ⊥)
decide_not A (inl a) = inr (λ f. f a)
decide_not A (inr no_a) = inl no_a

pub decide_as : (A B : Type 0) → (A → B) → (B → A) → Decided A → Decided B
decide_as A B to from (inl a) = inl (to a)
decide_as A B to from (inr no_a) = inr (λ b. no_a (from b))

pub decide_below : (a b : ℤ) → Decided (a <ℤ b)
decide_below a b = by_lt_z a b (λ lt. inl lt) (λ ge. inr (λ lt. omega (arith, ints, lt, ge)))

pub decide_at_most : (a b : ℤ) → Decided (a ≤ℤ b)
decide_at_most a b = by_lt_z b a (λ lt. inr (λ le. omega (arith, ints, lt, le))) (λ le. inl le)

pub decide_bool : (b : Bool) → Decided (b ≡ true)
decide_bool true = inl refl
decide_bool false = inr (λ e. absurd cc)

pub decide_name : (a b : List ℕ) → Decided (a ≡ b)
decide_name a b = decide_as _ _ (bytes_eq-Decides a b).0 (bytes_eq-Decides a b).1 (decide_bool (bytes_eq a b))
