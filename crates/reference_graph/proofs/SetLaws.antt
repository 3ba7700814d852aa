-- Lists of which an element is set, and those of which all elements are one.
use Rattle.std.proofs.Common.{◌≡◌, ◌⊎◌, inl, inr, ℕ, zero, suc, ◌<◌, List, length, set, get_or, replicate, sym, subst, ◌∙◌, get_or-set_same, get_or-set_other}
use Rattle.std.proofs.lemmas.Bool.{cases_eq}

-- an element after one is set is the new one at that place, or an old one
pub at_set : {A : Type 0} → (xs : List A) (i : ℕ) (new : A) (k : ℕ) (old none : A) → i < length xs → get_or (set xs i new) k none ≡ old → ((k ≡ i) × (new ≡ old)) ⊎ (get_or xs k none ≡ old)
at_set {A} xs i new k old none lt h = elim (cases_eq k i) [
  | inl e ↦ inl (e, sym (get_or-set_same xs i new none lt) ∙ subst (λ (n : ℕ). get_or (set xs i new) n none ≡ old) e h)
  | inr ne ↦ inr (sym (get_or-set_other xs i k new none ne) ∙ h)
]

-- each element is the one that all are
pub at_all : {A : Type 0} → (n k : ℕ) (x y : A) → get_or (replicate n x) k x ≡ y → y ≡ x
at_all zero k x y h = sym h
at_all (suc n) zero x y h = sym h
at_all (suc n) (suc k) x y h = at_all n k x y h
