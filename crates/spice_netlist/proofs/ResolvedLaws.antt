-- Each reference of a resolved deck is to one of its subcircuits.
use Rattle.std.proofs.Common.{◌≡◌, inl, inr, ℕ, zero, suc, ◌+◌, ◌<◌, List, [], ◌∷◌, length, map, get_or, Bool, true, false, cond, Option, None, Some, refl, sym, subst, ◌∙◌, arith}
use Rattle.std.specs.Prelude.{Contains}
use Rattle.std.specs.List.{cons_option, position_from}
use Rattle.std.proofs.lemmas.List.{length-map}
use Rattle.or_geom.proofs.ListLaws.{contains_none, contains_cases}
use Rattle.reference_graph.specs.Reaches.{AreWithin}
use Rattle.netlist.specs.declared.deck.Subckt.{Subckt}
use Rattle.netlist.specs.declared.deck.Instance.{Instance}
use Rattle.spice_netlist.specs.declared.resolved.ResolvedSubckt.{ResolvedSubckt}
use Rattle.spice_text.specs.Words.{lower}
use Rattle.spice_netlist.specs.Names.{same_name, index_of}
use Rattle.spice_netlist.specs.Resolved.{names_of, resolved_instance, is_leaf, resolved_subckt, resolved_subckts, subckt_references, graph}

choose : (b : Bool) (i : ℕ) (rest : Option ℕ) (n end : ℕ) → cond b (Some i) rest ≡ Some n → i < end → (rest ≡ Some n → n < end) → n < end
choose true i rest n end is lt later = let same_name : i ≡ n = cc in subst (λ (k : ℕ). k < end) same_name lt
choose false i rest n end is lt later = later is

from_within : (test : List ℕ → Bool) (i : ℕ) (names : List (List ℕ)) (n : ℕ) → position_from test i names ≡ Some n → n < i + length names
from_within test i [] n is = absurd cc
from_within test i (x ∷ xs) n is = choose (test x) i (position_from test (i + 1) xs) n (i + length (x ∷ xs)) is (omega arith) (λ e. let h = from_within test (i + 1) xs n e in omega (arith, h))

-- an index of a name is one of the list
pub index_within : (names : List (List ℕ)) (name : List ℕ) (index : ℕ) → index_of names name ≡ Some index → index < length names
index_within names name index is = let h = from_within (same_name name) 0 names index is in omega (arith, h)

module _ (index : List ℕ → Option ℕ) (count : ℕ) (inside : (name : List ℕ) (k : ℕ) → index name ≡ Some k → k < count) where
  first_or_later : (o : Option ℕ) (rest : List ℕ) (to : ℕ) → ((k : ℕ) → o ≡ Some k → k < count) → (Contains rest to → to < count) → Contains (cons_option o rest) to → to < count
  first_or_later None rest to own later h = later h
  first_or_later (Some k) rest to own later h = elim (contains_cases k rest to h) [
    | inl e ↦ subst (λ (n : ℕ). n < count) (sym e) (own k refl)
    | inr l ↦ later l
  ]

  placed : (instances : List Instance) (to : ℕ) → Contains (subckt_references (map (resolved_instance index) instances)) to → to < count
  placed [] to h = absurd (contains_none to h)
  placed (i ∷ is) to h = first_or_later (index (lower i.of)) (subckt_references (map (resolved_instance index) is)) to (inside (lower i.of)) (placed is to) h

  placed_if : (leaf : Bool) (instances : List Instance) (to : ℕ) → Contains (subckt_references (cond leaf [] (map (resolved_instance index) instances))) to → to < count
  placed_if true instances to h = absurd (contains_none to h)
  placed_if false instances to h = placed instances to h

  references_within : (top : List ℕ) (leaf : List ℕ → Option ℕ) (subckts : List Subckt) (node to : ℕ) → Contains (get_or (graph (map (resolved_subckt top leaf index) subckts)) node []) to → to < count
  references_within top leaf [] zero to h = absurd (contains_none to h)
  references_within top leaf [] (suc node) to h = absurd (contains_none to h)
  references_within top leaf (s ∷ ss) zero to h = placed_if (is_leaf top leaf s) s.instances to h
  references_within top leaf (s ∷ ss) (suc node) to h = references_within top leaf ss node to h

-- as many subcircuits as names
pub resolved_long : (subckts : List Subckt) (top : List ℕ) (leaves : List (List ℕ)) → length (resolved_subckts subckts top leaves) ≡ length (names_of subckts)
resolved_long subckts top leaves = length-map subckts (resolved_subckt top (index_of (map lower leaves)) (index_of (names_of subckts))) ∙ sym (length-map subckts (λ (s : Subckt). lower s.name))

pub graph_long : (subckts : List ResolvedSubckt) → length (graph subckts) ≡ length subckts
graph_long subckts = length-map subckts (λ (b : ResolvedSubckt). subckt_references b.instances)

-- each reference is to a subcircuit of the deck
pub resolved_within : (subckts : List Subckt) (top : List ℕ) (leaves : List (List ℕ)) → AreWithin (graph (resolved_subckts subckts top leaves))
resolved_within subckts top leaves node to refers =
    let lt = references_within (index_of (names_of subckts)) (length (names_of subckts)) (index_within (names_of subckts)) top (index_of (map lower leaves)) subckts node to refers in
    omega (arith, lt, graph_long (resolved_subckts subckts top leaves), resolved_long subckts top leaves)
