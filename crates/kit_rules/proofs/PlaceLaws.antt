-- Finding the first item without a property.
use Rattle.std.proofs.Common.{◌≡◌, inl, inr, ℕ, ◌+◌, ◌<◌, ◌≤◌, List, length, get_or, Bool, true, false, not, Some, refl, subst, arith}
use Rattle.std.specs.Prelude.{slice_get, IsTrue}
use Rattle.std.proofs.lemmas.Bool.{cases_lt}
use Rattle.std.proofs.lemmas.Option.{slice_get_read, slice_get_within}
use Rattle.leaf_shapes.proofs.PlaceLaws.{EachBefore}
use Rattle.kit_rules.specs.First.{EachHas, IsFirstWithout}

-- a test that isn't met is one whose negation is
pub not_by : (b : Bool) → (IsTrue b → ⊥) → IsTrue (not b)
not_by true h = absurd (h refl)
not_by false h = refl

-- no test is met together with its negation
pub clash_not : (b : Bool) → IsTrue b → IsTrue (not b) → ⊥
clash_not true met unmet = absurd cc
clash_not false met unmet = absurd cc

-- the item that a loop reads
pub read_at : {X : Type 0} (xs : List X) (i : ℕ) (x : X) → i < length xs → x ≡ get_or xs i x → slice_get xs i ≡ Some x
read_at xs i x lt is = slice_get_read xs (length xs) i x refl lt is

pub first_without : {X : Type 0} (P : X → Type 0) (xs : List X) (i : ℕ) (x : X) → slice_get xs i ≡ Some x → (P x → ⊥) → EachBefore P xs i → IsFirstWithout P xs i
first_without P xs i x here lacks before = record { item = x; here = here; lacks = lacks; before = λ earlier y lt there. before earlier y lt there }

pub each_has : {X : Type 0} (P : X → Type 0) (xs : List X) (i : ℕ) → length xs ≤ i → EachBefore P xs i → EachHas P xs
each_has P xs i over before place x there = let within = slice_get_within xs place x there in before place x (omega (arith, within, over)) there

-- what holds of each index below one more
pub below_one_more : (P : ℕ → Type 0) (i : ℕ) → ((k : ℕ) → k < i → P k) → P i → (k : ℕ) → k < i + 1 → P k
below_one_more P i before here k lt = elim (cases_lt k i) [ inl less ↦ before k less | inr ge ↦ let e : i ≡ k = omega (arith, lt, ge) in subst P e here ]
