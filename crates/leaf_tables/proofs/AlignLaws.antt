-- Pairs that fit each other, one after another.
use Rattle.std.proofs.Common.{◌≡◌, ℕ, suc, ◌≤◌, List, [], ◌∷◌, length, map, Some, refl, ap, ◌∙◌, arith}
use Rattle.std.specs.Prelude.{slice_get, option_map}
use Rattle.std.specs.List.{AllByRecursion}
use Rattle.std.proofs.lemmas.Option.{slice_get_within, slice_get-map}
use Rattle.leaf_shapes.proofs.PlaceLaws.{EachBefore}
use Rattle.leaf_tables.specs.declared.alignment.Facing.{Facing}
use Rattle.leaf_tables.specs.Alignment.{IsFirstOdd, plain_facing}

all_by : {X : Type 0} (P : X → Type 0) (xs : List X) → ((k : ℕ) (x : X) → slice_get xs k ≡ Some x → P x) → AllByRecursion P xs
all_by P [] each = tt
all_by P (x ∷ xs) each = (each 0 x refl, all_by P xs (λ k y at. each (suc k) y at))

-- in the end all have P
pub all_each : {X : Type 0} (P : X → Type 0) (xs : List X) (i : ℕ) → length xs ≤ i → EachBefore P xs i → AllByRecursion P xs
all_each P xs i done before = all_by P xs (λ k x at. let lt = slice_get_within xs k x at in before k x (omega (arith, lt, done)) at)

-- the first that hasn't
pub first_odd : {X : Type 0} (P : X → Type 0) (xs : List X) (i : ℕ) (x : X) → slice_get xs i ≡ Some x → (P x → ⊥) → EachBefore P xs i → IsFirstOdd P xs x
first_odd P xs i x at odd before = record { place = i; there = at; odd = odd; before = λ k y lt at_k. before k y lt at_k }

-- the pair at a place
pub facing_at : (all : List Facing) (i : ℕ) (facing : Facing) → slice_get all i ≡ Some facing → slice_get (map plain_facing all) i ≡ Some (plain_facing facing)
facing_at all i facing at = slice_get-map plain_facing all i ∙ ap (option_map plain_facing) at
