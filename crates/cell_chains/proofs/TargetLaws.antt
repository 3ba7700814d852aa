-- The loops that list the cells: one item more.
use Rattle.std.proofs.Common.{◌≡◌, inl, inr, ℕ, ◌+◌, ◌<◌, List, [], ◌∷◌, ◌++◌, length, get_or, Option, Some, None, sym, ap, subst, ◌∙◌, arith}
use Rattle.std.specs.Prelude.{Contains, slice_get}
use Rattle.std.specs.List.{cons_option}
use Rattle.std.proofs.lemmas.Bool.{cases_lt}
use Rattle.std.proofs.lemmas.Option.{none-some, same_Some, slice_get_within, get_or_from_slice_get}
use Rattle.std.proofs.lemmas.List.{length_push, get_or_append_left, get_or_push}
use Rattle.or_geom.proofs.ListLaws.{contains_none, contains_cases, contains_first, contains_option}
use Rattle.gds_library.specs.declared.library.Element.{Element}
use Rattle.gds_library.specs.declared.library.Structure.{Structure}
use Rattle.cell_chains.specs.declared.cell.Cell.{Cell}
use Rattle.cell_chains.specs.Hierarchy.{referred_name}
use Rattle.cell_chains.specs.Numbering.{referred_names}
use Rattle.cell_chains.specs.Listing.{LeadsTo, AreTargets, IsListed}

-- so far in a loop over the order
pub record ArePlaced (order : List ℕ) (count done : ℕ) (positions : List ℕ) : Type 0 where
  pub sized : length positions ≡ count
  pub each : (place : ℕ) → place < done → place < length order → get_or positions (get_or order place 0) 0 ≡ place

-- so far in a loop over the elements
pub record AreTargetsTo (names : List (List ℕ)) (positions : List ℕ) (elements : List Element) (done : ℕ) (targets : List ℕ) : Type 0 where
  pub sized : length targets ≡ done
  pub each : (n : ℕ) (e : Element) (name : List ℕ) → n < done → slice_get elements n ≡ Some e → referred_name e ≡ Some name → LeadsTo names positions name (get_or targets n 0)

pub targets_more : (names : List (List ℕ)) (positions : List ℕ) (elements : List Element) (done : ℕ) (targets : List ℕ) (d : Element) (target : ℕ)
    → ((name : List ℕ) → referred_name (get_or elements done d) ≡ Some name → LeadsTo names positions name target) → AreTargetsTo names positions elements done targets
    → AreTargetsTo names positions elements (done + 1) (targets ++ target ∷ [])
targets_more names positions elements done targets d target here t = record {
  sized = length_push targets target ∙ ap (λ (n : ℕ). n + 1) t.sized;
  each = λ n e name lt stands refers. elim (cases_lt n done) [
    | inl before ↦
        let inside : n < length targets = omega (arith, t.sized) in
        rw (get_or_append_left targets (target ∷ []) 0 n inside) (t.each n e name before stands refers)
    | inr last ↦
        let same : done ≡ n = omega arith in
        let long : length targets ≡ n = t.sized ∙ same in
        let is : get_or elements done d ≡ e = ap (λ (k : ℕ). get_or elements k d) same ∙ get_or_from_slice_get elements n e d stands in
        rw (get_or_push targets target 0 n long) (here name (ap referred_name is ∙ refers))
  ];
}

pub targets_all : (names : List (List ℕ)) (positions : List ℕ) (elements : List Element) (done : ℕ) (targets : List ℕ) → done ≡ length elements → AreTargetsTo names positions elements done targets → AreTargets names positions elements targets
targets_all names positions elements done targets e t = record {
  sized = t.sized ∙ e;
  each = λ n element name stands refers. let inside = slice_get_within elements n element stands in t.each n element name (omega arith) stands refers;
}

pub one_referred : (o : Option (List ℕ)) (name : List ℕ) (more : List (List ℕ)) → o ≡ Some name → Contains (cons_option o more) name
one_referred None name more e = absurd (none-some name e)
one_referred (Some n) name more e = subst (λ (m : List ℕ). Contains (m ∷ more) name) (sym (same_Some n name e)) (contains_first name more)

-- the name to which an element refers is among those to which the elements refer
pub refers_among : (elements : List Element) (e : Element) (name : List ℕ) → Contains elements e → referred_name e ≡ Some name → Contains (referred_names elements) name
refers_among [] e name h refers = absurd (contains_none e h)
refers_among (x ∷ xs) e name h refers = elim (contains_cases x xs e h) [
  | inl same ↦ one_referred (referred_name x) name (referred_names xs) (ap referred_name (sym same) ∙ refers)
  | inr later ↦ contains_option (referred_name x) (referred_names xs) name (refers_among xs e name later refers)
]

-- so far in a loop over the order
pub record AreListedTo (structs : List Structure) (names : List (List ℕ)) (firsts : List (Option ℕ)) (positions order heights : List ℕ) (done : ℕ) (cells : List Cell) : Type 0 where
  pub sized : length cells ≡ done
  pub each : (k : ℕ) (d : Cell) → k < done → IsListed structs names firsts positions (get_or heights (get_or order k 0) 0) (get_or order k 0) (get_or cells k d)
