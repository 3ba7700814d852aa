-- The first of the names that is taken.
use Rattle.std.proofs.Common.{◌≡◌, ℕ, List, [], ◌∷◌, Bool, true, false, cond, Some, None, ap, ◌∙◌}
use Rattle.leaf_tables.specs.declared.kit.Kit.{Kit}
use Rattle.sram_macro.specs.Names.{is_taken, first_taken}

pub taken_first : (kit : Kit) (names others : List (List ℕ)) (first : List ℕ) → names ≡ first ∷ others → is_taken kit first ≡ true → first_taken kit names ≡ Some first
taken_first kit names others first front is = ap (first_taken kit) front ∙ ap (λ (t : Bool). cond t (Some first) (first_taken kit others)) is

pub free_first : (kit : Kit) (names others : List (List ℕ)) (first : List ℕ) → names ≡ first ∷ others → is_taken kit first ≡ false → first_taken kit names ≡ first_taken kit others
free_first kit names others first front is = ap (first_taken kit) front ∙ ap (λ (t : Bool). cond t (Some first) (first_taken kit others)) is

pub none_left : (kit : Kit) (names : List (List ℕ)) → names ≡ [] → first_taken kit names ≡ None
none_left kit names none = ap (first_taken kit) none
