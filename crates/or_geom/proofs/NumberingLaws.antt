-- When two lists are one, and two numberings.
use Rattle.std.proofs.Common.{◌≡◌, inl, inr, ℕ, zero, suc, ◌<◌, List, [], ◌∷◌, map, Some, refl, sym, ap, subst, ◌∙◌, arith}
use Rattle.std.specs.Prelude.{slice_get}
use Rattle.std.proofs.lemmas.Bool.{cases_lt}

-- lists are one where a part of their items is one, and with it the items
pub one_by : {X Y : Type 0} (f : X → Y) (xs ys : List X) → map f xs ≡ map f ys → ((k : ℕ) (x y : X) → slice_get xs k ≡ Some x → slice_get ys k ≡ Some y → f x ≡ f y → x ≡ y) → xs ≡ ys
one_by f [] [] e each = refl
one_by f [] (y ∷ ys) e each = absurd cc
one_by f (x ∷ xs) [] e each = absurd cc
one_by {X} f (x ∷ xs) (y ∷ ys) e each =
    let first : x ≡ y = each 0 x y refl refl cc in
    let rest : xs ≡ ys = one_by f xs ys (cc) (λ k. each (suc k)) in
    ap (λ (z : X). z ∷ xs) first ∙ ap (λ (zs : List X). y ∷ zs) rest

-- a place has a number by `Has`, and a number by `Other`: of smaller numbers by `Has` each stands before, and places with one
-- number by `Has` have one by `Other`
pub record Follows (Has Other : ℕ → ℕ → Type 0) : Type 0 where
  pub first : (place number smaller : ℕ) → Has place number → smaller < number → (earlier : ℕ) × (earlier < place) × Has earlier smaller
  pub there : (place number : ℕ) → Has place number → (other : ℕ) × Other place other
  pub one : (j k number m n : ℕ) → Has j number → Has k number → Other j m → Other k n → m ≡ n

-- at the first place where they differ, neither is less
not_less : (Has Other : ℕ → ℕ → Type 0) → Follows Has Other → Follows Other Has → (k m n : ℕ) → ((j p q : ℕ) → j < k → Has j p → Other j q → p ≡ q) → Has k m → Other k n → m < n → ⊥
not_less Has Other a b k m n before has other lt =
    let seen = b.first k n m other lt in
    let also = b.there seen.0 m seen.2 in
    let e : m ≡ n = a.one seen.0 k m m n (subst (Has seen.0) (before seen.0 also.0 m seen.1 also.1 seen.2) also.1) has seen.2 other in
    omega (arith, e, lt)

numbers_below : (Has Other : ℕ → ℕ → Type 0) → Follows Has Other → Follows Other Has → (limit k m n : ℕ) → k < limit → Has k m → Other k n → m ≡ n
numbers_below Has Other a b zero k m n lt has other = absurd (omega arith)
numbers_below Has Other a b (suc limit) k m n lt has other =
    let before : (j p q : ℕ) → j < k → Has j p → Other j q → p ≡ q = λ j p q less. numbers_below Has Other a b limit j p q (omega arith) in
    elim (cases_lt m n) [
      | inl less ↦ absurd (not_less Has Other a b k m n before has other less)
      | inr ge ↦ elim (cases_lt n m) [
        | inl less ↦ absurd (not_less Other Has b a k n m (λ j p q below o h. sym (before j q p below h o)) other has less)
        | inr le ↦ omega arith
      ]
    ]

-- numbers by first appearance are one, where they tell apart the same places
pub one_number : (Has Other : ℕ → ℕ → Type 0) → Follows Has Other → Follows Other Has → (k m n : ℕ) → Has k m → Other k n → m ≡ n
one_number Has Other a b k m n has other = numbers_below Has Other a b (suc k) k m n (omega arith) has other
