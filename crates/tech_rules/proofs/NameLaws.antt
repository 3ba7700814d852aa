-- Names that differ.
use Rattle.std.proofs.Common.{◌≡◌, ℕ, ◌+◌, ◌-◌, ◌<◌, ◌≤◌, ◌∙◌, Bool, true, false, List, ◌∷◌, length, get_or, take, drop, refl, sym, ap}
use Rattle.std.proofs.lemmas.List.{at_drop_more, at_drop_all, take_rest}
use Rattle.tech_rules.specs.Names.{holds, are_different}

at_name : (names : List (List ℕ)) (i : ℕ) (name : List ℕ) → i < length names → name ≡ get_or names i name
    → are_different (drop i names) ≡ are_different (name ∷ drop (i + 1) names)
at_name names i name lt is = at_drop_more are_different names i name lt ∙ ap (λ (n : List ℕ). are_different (n ∷ drop (i + 1) names)) (sym is)

-- a name that stands again later
pub again : (names : List (List ℕ)) (i : ℕ) (name : List ℕ) (total : Bool) → i < length names
    → name ≡ get_or names i name → true ≡ holds name (take (length names - (i + 1)) (drop (i + 1) names))
    → are_different (drop i names) ≡ total → false ≡ total
again names i name total lt is twice so_far =
    let e = rw take_rest at twice in
    let one : are_different (name ∷ drop (i + 1) names) ≡ false = rw (← e) refl in
    sym one ∙ sym (at_name names i name lt is) ∙ so_far

-- a name that doesn't
pub no_more : (names : List (List ℕ)) (i : ℕ) (name : List ℕ) (total : Bool) → i < length names
    → name ≡ get_or names i name → false ≡ holds name (take (length names - (i + 1)) (drop (i + 1) names))
    → are_different (drop i names) ≡ total → are_different (drop (i + 1) names) ≡ total
no_more names i name total lt is once so_far =
    let e = rw take_rest at once in
    let one : are_different (name ∷ drop (i + 1) names) ≡ are_different (drop (i + 1) names) = rw (← e) refl in
    sym one ∙ sym (at_name names i name lt is) ∙ so_far

pub all_seen : (names : List (List ℕ)) (i : ℕ) (total : Bool) → length names ≤ i → are_different (drop i names) ≡ total
    → true ≡ total
all_seen names i total le so_far = sym (at_drop_all are_different names i le) ∙ so_far
