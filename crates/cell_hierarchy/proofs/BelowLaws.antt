-- What the items of arrays and the elements give, one after another.
use Rattle.std.proofs.Common.{◌≡◌, ◌⊎◌, inl, inr, ℕ, ◌+◌, ℤ, pos, w16, FitsSigned, to_z, of_z, ◌≤ℤ◌, List, sym, ap, subst, ◌∙◌, arith}
use Rattle.std.proofs.lemmas.Int.{ints, to_z-of_z}
use Rattle.std.specs.Prelude.{unsigned_abs}
use Rattle.or_geom.specs.declared.place.Place.{Place}
use Rattle.or_geom.proofs.ListLaws.{below_or}
use Rattle.gds_library.specs.declared.library.Prop.{Prop}
use Rattle.cell_chains.specs.Instances.{Item, reference_name}
use Rattle.cell_hierarchy.specs.Below.{SomeBelow}
use Rattle.cell_hierarchy.proofs.NearLaws.{by_size}

pub step_to : {X : Type 0} (P : ℕ → X → Type 0) (n : ℕ) (x : X) → SomeBelow P n x ⊎ P n x → SomeBelow P (n + 1) x
step_to P n x (inl b) = record { index = b.index; below = omega (arith, b.below); has = b.has }
step_to P n x (inr p) = record { index = n; below = omega arith; has = p }

pub step_from : {X : Type 0} (P : ℕ → X → Type 0) (n : ℕ) (x : X) → SomeBelow P (n + 1) x → SomeBelow P n x ⊎ P n x
step_from P n x b = elim (below_or b.index n b.below) [
  | inl lt ↦ inl (record { index = b.index; below = lt; has = b.has })
  | inr e ↦ inr (subst (λ (m : ℕ). P m x) e b.has)
]

-- the item of a reference
abbrev pub reference_item : ℕ → List ℕ → Place → List Prop → Item
reference_item n name place props = record { name = reference_name n props; cell = name; place = place }

pub same_item : (a b : Item) → a.name ≡ b.name → a.cell ≡ b.cell → a.place ≡ b.place → a ≡ b
same_item a b name cell place = λ i. record { name = name i; cell = cell i; place = place i }

-- a positive number, as the code passes its size on
pub whole_abs : (z : ℤ) (n : ℕ) → pos 1 ≤ℤ z → z ≤ℤ pos 32767 → n ≡ unsigned_abs (to_z w16 (of_z w16 z)) → z ≡ pos n
whole_abs z n up down e =
    let fits : FitsSigned w16 z = omega (arith, ints) in
    by_size z up ∙ sym (ap pos (e ∙ ap unsigned_abs (to_z-of_z w16 z fits)))
