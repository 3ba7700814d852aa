-- Subcircuits in lower case resolve to the same.
use Rattle.std.proofs.Common.{◌≡◌, ℕ, List, [], ◌∷◌, ◌++◌, map, ◌&&◌, ◌||◌, not, cond, Option, is_some, refl, sym, ap, ◌∙◌}
use Rattle.std.proofs.lemmas.List.{map-append}
use Rattle.std.proofs.lemmas.Str.Ascii.{lowercase-lowercase}
use Rattle.netlist.specs.declared.deck.Subckt.{Subckt}
use Rattle.netlist.specs.declared.deck.Instance.{Instance}
use Rattle.spice_text.specs.Writable.{lowered_instance, lowered_subckt}
use Rattle.spice_netlist.specs.declared.resolved.ResolvedSubckt.{ResolvedSubckt}
use Rattle.spice_text.specs.Words.{lower}
use Rattle.spice_netlist.specs.Names.{same_name, index_of}
use Rattle.spice_netlist.specs.Resolved.{names_of, resolved_instance, is_bare, is_leaf, resolved_subckt}
use Rattle.row_laws.specs.Laws.{CaseIsForgotten}

pub lower_lower : (n : List ℕ) → lower (lower n) ≡ lower n
lower_lower [] = refl
lower_lower (c ∷ n) = λ i. lowercase-lowercase c i ∷ lower_lower n i

lowers : (ns : List (List ℕ)) → map lower (map lower ns) ≡ map lower ns
lowers [] = refl
lowers (n ∷ ns) = λ i. lower_lower n i ∷ lowers ns i

same_instances : (index : List ℕ → Option ℕ) (is : List Instance) → map (resolved_instance index) (map lowered_instance is) ≡ map (resolved_instance index) is
same_instances index [] = refl
same_instances index (x ∷ is) = λ j. record { name = lower_lower x.name j; nodes = lowers x.nodes j; of = lower_lower x.of j; index = index (lower_lower x.of j) } ∷ same_instances index is j

same_bare : (is : List Instance) → is_bare (map lowered_instance is) ≡ is_bare is
same_bare [] = refl
same_bare (i ∷ is) = refl

module _ (top : List ℕ) (leaf index : List ℕ → Option ℕ) where
  same_leaf : (s : Subckt) → is_leaf top leaf (lowered_subckt s) ≡ is_leaf top leaf s
  same_leaf s = λ i. not (same_name (lower_lower s.name i) top) && (is_some (leaf (lower_lower s.name i)) || same_bare s.instances i)

  same_subckt : (s : Subckt) → resolved_subckt top leaf index (lowered_subckt s) ≡ resolved_subckt top leaf index s
  same_subckt s = λ i. record { name = lower_lower s.name i; ports = lowers s.ports i; leaf = same_leaf s i; instances = cond (same_leaf s i) [] (same_instances index s.instances i) }

  same_subckts : (ss : List Subckt) → map (resolved_subckt top leaf index) (map lowered_subckt ss) ≡ map (resolved_subckt top leaf index) ss
  same_subckts [] = refl
  same_subckts (s ∷ ss) = λ i. same_subckt s i ∷ same_subckts ss i

  same_deck : (before after : List Subckt) → map (resolved_subckt top leaf index) (before ++ map lowered_subckt after) ≡ map (resolved_subckt top leaf index) (before ++ after)
  same_deck before after =
      map-append (resolved_subckt top leaf index) before (map lowered_subckt after)
      ∙ ap (λ (l : List ResolvedSubckt). map (resolved_subckt top leaf index) before ++ l) (same_subckts after)
      ∙ sym (map-append (resolved_subckt top leaf index) before after)

same_names : (before after : List Subckt) → names_of (before ++ map lowered_subckt after) ≡ names_of (before ++ after)
same_names [] [] = refl
same_names [] (s ∷ after) = λ i. lower_lower s.name i ∷ same_names [] after i
same_names (s ∷ before) after = ap (λ (l : List (List ℕ)). lower s.name ∷ l) (same_names before after)

pub case_forgotten : CaseIsForgotten
case_forgotten before after top leaves = record {
  subckts =
      ap (λ (names : List (List ℕ)). map (resolved_subckt top (index_of (map lower leaves)) (index_of names)) (before ++ map lowered_subckt after)) (same_names before after)
      ∙ same_deck top (index_of (map lower leaves)) (index_of (names_of (before ++ after))) before after;
  names = same_names before after;
}
