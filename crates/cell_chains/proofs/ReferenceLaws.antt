-- The nodes to which elements refer, and the graph of them.
use Rattle.std.proofs.Common.{◌≡◌, inl, inr, ℕ, ◌+◌, ◌<◌, Bool, true, false, cond, List, [], ◌∷◌, ◌++◌, map, length, get_or, Option, Some, refl, sym, ap, subst, ◌∙◌, arith, append_assoc}
use Rattle.std.specs.Prelude.{Contains}
use Rattle.std.specs.List.{cons_option}
use Rattle.std.specs.Str.{bytes_eq}
use Rattle.std.proofs.lemmas.Bool.{cases_lt}
use Rattle.std.proofs.lemmas.List.{map_push, get_or_append_left, get_or_push, length_push}
use Rattle.std.proofs.lemmas.List.Elements.{Contains-push_cases, Contains-append_left, Contains-append_right}
use Rattle.or_geom.proofs.ListLaws.{contains_none, contains_first}
use Rattle.gds_library.specs.declared.library.Element.{Element}
use Rattle.gds_library.specs.declared.library.Structure.{Structure}
use Rattle.cell_chains.specs.Chains.{elements_of}
use Rattle.cell_chains.specs.Hierarchy.{referred_name}
use Rattle.cell_chains.specs.Numbering.{name_at, referred_names, all_referred, IsNodeNamed, AreReferences}

-- so far in a loop over the elements, of which `rest` are left
pub record IsReading (names : List (List ℕ)) (elements rest : List Element) (nodes : List ℕ) : Type 0 where
  pub within : (node : ℕ) → Contains nodes node → node < length names
  pub named : map (name_at names) nodes ++ referred_names rest ≡ referred_names elements

rest_named : (first : Element) (others rest : List Element) (name : Option (List ℕ)) → rest ≡ first ∷ others → referred_name first ≡ name → referred_names rest ≡ cons_option name (referred_names others)
rest_named first others rest name e is = ap referred_names e ∙ ap (λ (o : Option (List ℕ)). cons_option o (referred_names others)) is

pub reading_adds : (names : List (List ℕ)) (elements rest others : List Element) (first : Element) (nodes : List ℕ) (name : List ℕ) (node : ℕ) → rest ≡ first ∷ others → referred_name first ≡ Some name → IsNodeNamed names name node
    → IsReading names elements rest nodes → IsReading names elements others (nodes ++ node ∷ [])
reading_adds names elements rest others first nodes name node e is here r = record {
  within = λ k h. elim (Contains-push_cases nodes node k h) [ inl before ↦ r.within k before | inr same ↦ subst (λ (n : ℕ). n < length names) same here.within ];
  named =
      let pushed : map (name_at names) (nodes ++ node ∷ []) ≡ map (name_at names) nodes ++ name ∷ [] = map_push (name_at names) nodes node ∙ ap (λ (n : List ℕ). map (name_at names) nodes ++ n ∷ []) here.named in
      ap (λ (front : List (List ℕ)). front ++ referred_names others) pushed
      ∙ (append_assoc (map (name_at names) nodes) (name ∷ []) (referred_names others)
      ∙ (ap (λ (more : List (List ℕ)). map (name_at names) nodes ++ more) (sym (rest_named first others rest (Some name) e is)) ∙ r.named));
}

-- the name at which the loop stands is one of those to which the elements refer
pub reading_there : (names : List (List ℕ)) (elements rest others : List Element) (first : Element) (nodes : List ℕ) (name : List ℕ) → rest ≡ first ∷ others → referred_name first ≡ Some name → IsReading names elements rest nodes
    → Contains (referred_names elements) name
reading_there names elements rest others first nodes name e is r =
    subst (λ (all : List (List ℕ)). Contains all name) r.named
    (Contains-append_right (map (name_at names) nodes) (referred_names rest) name (subst (λ (more : List (List ℕ)). Contains more name) (sym (rest_named first others rest (Some name) e is)) (contains_first name (referred_names others))))

referred_by : (b : Bool) (s : Structure) (ss : List Structure) (of name : List ℕ) → bytes_eq s.name of ≡ b → (Contains (referred_names (elements_of ss of)) name → Contains (all_referred ss) name)
    → Contains (referred_names (cond b s.elements (elements_of ss of))) name → Contains (all_referred (s ∷ ss)) name
referred_by true s ss of name test below h = Contains-append_left (referred_names s.elements) (all_referred ss) name h
referred_by false s ss of name test below h = Contains-append_right (referred_names s.elements) (all_referred ss) name (below h)

-- what the structure of a name refers to is among what structures refer to
pub referred_there : (structs : List Structure) (of name : List ℕ) → Contains (referred_names (elements_of structs of)) name → Contains (all_referred structs) name
referred_there [] of name h = absurd (contains_none name h)
referred_there (s ∷ ss) of name h = referred_by (bytes_eq s.name of) s ss of name refl (referred_there ss of name) h

-- so far in a loop over the names
pub record IsGraphTo (structs : List Structure) (names : List (List ℕ)) (graph : List (List ℕ)) (count : ℕ) : Type 0 where
  pub sized : length graph ≡ count
  pub each : (node : ℕ) → node < count → AreReferences names (elements_of structs (name_at names node)) (get_or graph node [])

pub graph_more : (structs : List Structure) (names : List (List ℕ)) (graph : List (List ℕ)) (count : ℕ) (references : List ℕ) → AreReferences names (elements_of structs (name_at names count)) references → IsGraphTo structs names graph count
    → IsGraphTo structs names (graph ++ references ∷ []) (count + 1)
graph_more structs names graph count references r g = record {
  sized = length_push graph references ∙ ap (λ (n : ℕ). n + 1) g.sized;
  each = λ node lt. elim (cases_lt node count) [
    | inl before ↦
        let inside : node < length graph = omega (arith, g.sized) in
        rw (get_or_append_left graph (references ∷ []) [] node inside) (g.each node before)
    | inr last ↦
        let same : count ≡ node = omega arith in
        let long : length graph ≡ node = g.sized ∙ same in
        rw (get_or_push graph references [] node long) (subst (λ (n : ℕ). AreReferences names (elements_of structs (name_at names n)) references) same r)
  ];
}
