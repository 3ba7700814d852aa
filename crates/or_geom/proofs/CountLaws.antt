-- A list whose items are told apart is at most as long as one in which something stands for each.
use Rattle.std.proofs.Common.{◌≡◌, inl, inr, ℕ, zero, suc, ◌<◌, ◌≤◌, List, [], ◌∷◌, length, slice_index_or, refl, sym, ap, ◌∙◌, arith}
use Rattle.std.specs.Prelude.{Contains}
use Rattle.or_geom.proofs.ListLaws.{contains_cases, contains_here, contains_first, contains_later}

-- the list without its item at k
abbrev without : {X : Type 0} → List X → ℕ → List X
without [] k = []
without (y ∷ ys) zero = ys
without (y ∷ ys) (suc k) = y ∷ without ys k

without_length : {X : Type 0} (ys : List X) (k : ℕ) → k < length ys → length ys ≡ suc (length (without ys k))
without_length [] k lt = absurd (omega arith)
without_length (y ∷ ys) zero lt = refl
without_length (y ∷ ys) (suc k) lt = ap suc (without_length ys k (omega arith))

without_kept : {X : Type 0} (ys : List X) (k : ℕ) (x z : X) → k < length ys → slice_index_or ys k x ≡ x → (x ≡ z → ⊥) → Contains ys z → Contains (without ys k) z
without_kept [] k x z lt e other c = absurd (omega arith)
without_kept (y ∷ ys) zero x z lt e other c = elim (contains_cases y ys z c) [ inl here ↦ absurd (other (sym e ∙ sym here)) | inr later ↦ later ]
without_kept (y ∷ ys) (suc k) x z lt e other c = elim (contains_cases y ys z c) [
  | inl here ↦ contains_here y (without ys k) z here
  | inr later ↦ contains_later y (without ys k) z (without_kept ys k x z (omega arith) e other later)
]

-- f tells each item from those behind it
abbrev pub AreToldApart : {X Y : Type 0} → (X → Y) → List X → Type 0
AreToldApart f [] = Unit {0}
AreToldApart {X = X} f (x ∷ xs) = ((z : X) → Contains xs z → f x ≡ f z → ⊥) × AreToldApart f xs

pub at_most : {X Y : Type 0} (f : X → Y) (xs : List X) (ys : List Y) → AreToldApart f xs → ((x : X) → Contains xs x → Contains ys (f x)) → length xs ≤ length ys
at_most f [] ys apart kept = omega arith
at_most f (x ∷ xs) ys apart kept =
    let c = kept x (contains_first x xs) in
    let rest : length xs ≤ length (without ys c.0) =
    at_most f xs (without ys c.0) apart.1 (λ z h. without_kept ys c.0 (f x) (f z) c.1 c.2 (apart.0 z h) (kept z (contains_later x xs z h))) in
    let shorter = without_length ys c.0 c.1 in
    omega (arith, rest, shorter)
