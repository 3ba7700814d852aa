-- References, lists of them and instances are the same or not.
use Rattle.std.proofs.Common.{◌≡◌, ◌⊎◌, inl, inr, List, [], ◌∷◌, Option, Some, None, refl, ap}
use Rattle.std.proofs.lemmas.Bool.{cases_eq}
use Rattle.leaf_contacts.specs.declared.stand.ReferenceStep.{ReferenceStep}

same_step : (r s : ReferenceStep) → (r ≡ s) ⊎ (r ≡ s → ⊥)
same_step r s = elim (cases_eq r.element s.element) [
  | inl element ↦ elim (cases_eq r.column s.column) [
    | inl column ↦ elim (cases_eq r.row s.row) [
      | inl row ↦ inl (λ i. record { element = element i; column = column i; row = row i })
      | inr other ↦ inr (λ e. other (ap (λ (t : ReferenceStep). t.row) e))
    ]
    | inr other ↦ inr (λ e. other (ap (λ (t : ReferenceStep). t.column) e))
  ]
  | inr other ↦ inr (λ e. other (ap (λ (t : ReferenceStep). t.element) e))
]

same_steps : (c d : List ReferenceStep) → (c ≡ d) ⊎ (c ≡ d → ⊥)
same_steps [] [] = inl refl
same_steps [] (s ∷ d) = inr (λ e. absurd (cc))
same_steps (r ∷ c) [] = inr (λ e. absurd (cc))
same_steps (r ∷ c) (s ∷ d) = elim (same_step r s) [
  | inl head ↦ elim (same_steps c d) [
    | inl tail ↦ inl (λ i. head i ∷ tail i)
    | inr other ↦ inr (λ e. let t : c ≡ d = cc in other t)
  ]
  | inr other ↦ inr (λ e. let t : r ≡ s = cc in other t)
]

pub same_instance : (o p : Option (List ReferenceStep)) → (o ≡ p) ⊎ (o ≡ p → ⊥)
same_instance None None = inl refl
same_instance None (Some d) = inr (λ e. absurd (cc))
same_instance (Some c) None = inr (λ e. absurd (cc))
same_instance (Some c) (Some d) = elim (same_steps c d) [
  | inl same ↦ inl (ap Some same)
  | inr other ↦ inr (λ e. let t : c ≡ d = cc in other t)
]
