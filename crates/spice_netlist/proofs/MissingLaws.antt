-- The least name that isn't there, over the instances so far and over the subcircuits so far.
use Rattle.std.proofs.Common.{◌≡◌, ◌⊎◌, inl, inr, ℕ, ◌+◌, ◌<◌, List, [], ◌∷◌, ◌++◌, Bool, true, false, length, get_or, take, Option, None, Some, refl, sym, ap, subst, ◌∙◌, arith}
use Rattle.std.specs.Prelude.{is_some}
use Rattle.std.proofs.lemmas.List.{get_or_past}
use Rattle.std.proofs.lemmas.Bool.{cases_lt}
use Rattle.std.proofs.lemmas.List.Elements.{Contains-push, Contains-push_cases, Contains-append_left}
use Rattle.or_geom.proofs.ListLaws.{contains_none}
use Rattle.or_geom.specs.Least.{IsLeast}
use Rattle.reference_graph.specs.Reaches.{IsMarked, MarksReached, CyclesMarked}
use Rattle.spice_netlist.specs.declared.resolved.ResolvedSubckt.{ResolvedSubckt}
use Rattle.spice_netlist.specs.declared.resolved.ResolvedInstance.{ResolvedInstance}
use Rattle.spice_netlist.specs.Least.{IsLeastOf, IsMissingIn, lesser_of}
use Rattle.spice_netlist.specs.Resolved.{instances_at, subckt_name_at, graph}
use Rattle.spice_netlist.specs.Faults.{IsUnknownSubckt, IsCyclicSubckt}
use Rattle.spice_netlist.proofs.ListLaws.{front_at}
use Rattle.spice_netlist.proofs.LeastLaws.{IsBelow, least_of_as, least_with, self_least}

pub missing_none : IsLeastOf (IsMissingIn []) None
missing_none = λ name m. contains_none m.instance m.stands

missing_old : (instances : List ResolvedInstance) (instance : ResolvedInstance) (name : List ℕ) → IsMissingIn instances name → IsMissingIn (instances ++ instance ∷ []) name
missing_old instances instance name m = record { instance = m.instance; stands = Contains-append_left instances (instance ∷ []) m.instance m.stands; missing = m.missing; is = m.is }

missing_cases : (instances : List ResolvedInstance) (instance : ResolvedInstance) (name : List ℕ) → IsMissingIn (instances ++ instance ∷ []) name → IsMissingIn instances name ⊎ ((instance.index ≡ None) × (name ≡ instance.of))
missing_cases instances instance name m = elim (Contains-push_cases instances instance m.instance m.stands) [
  | inl old ↦ inl (record { instance = m.instance; stands = old; missing = m.missing; is = m.is })
  | inr e ↦ inr (subst (λ (p : ResolvedInstance). p.index ≡ None) (sym e) m.missing, sym m.is ∙ ap (λ (p : ResolvedInstance). p.of) (sym e))
]

pub missing_skip : (instances : List ResolvedInstance) (i : ℕ) (instance : ResolvedInstance) (found : Option (List ℕ)) → i < length instances → instance ≡ get_or instances i instance → (instance.index ≡ None → ⊥) → IsLeastOf (IsMissingIn (take i instances)) found → IsLeastOf (IsMissingIn (take (i + 1) instances)) found
missing_skip instances i instance found lt is there l =
    subst (λ (ps : List ResolvedInstance). IsLeastOf (IsMissingIn ps) found) (sym (front_at instances i instance lt is))
    (least_of_as (IsMissingIn (take i instances)) (IsMissingIn (take i instances ++ instance ∷ [])) (missing_old (take i instances) instance)
    (λ name m. elim (missing_cases (take i instances) instance name m) [ inl old ↦ old | inr e ↦ absurd (there e.0) ]) found l)

pub missing_add : (instances : List ResolvedInstance) (i : ℕ) (instance : ResolvedInstance) (found : Option (List ℕ)) → i < length instances → instance ≡ get_or instances i instance → instance.index ≡ None → IsLeastOf (IsMissingIn (take i instances)) found
    → IsLeast (IsMissingIn (take (i + 1) instances)) (lesser_of found instance.of)
missing_add instances i instance found lt is none l =
    subst (λ (ps : List ResolvedInstance). IsLeast (IsMissingIn ps) (lesser_of found instance.of)) (sym (front_at instances i instance lt is))
    (least_with (IsMissingIn (take i instances)) (IsMissingIn (take i instances ++ instance ∷ [])) found instance.of l (missing_old (take i instances) instance)
    (record { instance = instance; stands = Contains-push (take i instances) instance; missing = none; is = refl })
    (λ name m. elim (missing_cases (take i instances) instance name m) [ inl old ↦ inl old | inr e ↦ inr e.1 ]))

-- the marked subcircuit at an index refers to the name, and it isn't there
pub record IsMissingAt (subckts : List ResolvedSubckt) (marks : List Bool) (index : ℕ) (name : List ℕ) : Type 0 where
  pub marked : IsMarked marks index
  pub missing : IsMissingIn (instances_at subckts index) name

pub unknown_all : (subckts : List ResolvedSubckt) (top : ℕ) (marks : List Bool) (found : Option (List ℕ)) → MarksReached (graph subckts) top marks → length (graph subckts) ≡ length subckts → ((index : ℕ) → IsMarked marks index → index < length marks)
    → IsLeastOf (IsBelow (IsMissingAt subckts marks) (length subckts)) found → IsLeastOf (IsUnknownSubckt subckts top) found
unknown_all subckts top marks found m sized inside =
    least_of_as (IsBelow (IsMissingAt subckts marks) (length subckts)) (IsUnknownSubckt subckts top)
    (λ name b. record { index = b.index; reached = (m.exact b.index).0 b.has.marked; missing = b.has.missing })
    (λ name u. let marked = (m.exact u.index).1 u.reached in record { index = u.index; before = omega (arith, inside u.index marked, m.sized); has = record { marked = marked; missing = u.missing } })
    found

-- the subcircuit at an index is marked, and has the name
pub record IsMarkedAt (subckts : List ResolvedSubckt) (marks : List Bool) (index : ℕ) (name : List ℕ) : Type 0 where
  pub marked : IsMarked marks index
  pub is : subckt_name_at subckts index ≡ name

pub cyclic_all : (subckts : List ResolvedSubckt) (top : ℕ) (marks : List Bool) (found : Option (List ℕ)) → CyclesMarked (graph subckts) top marks → length (graph subckts) ≡ length subckts → ((index : ℕ) → IsMarked marks index → index < length marks)
    → IsLeastOf (IsBelow (IsMarkedAt subckts marks) (length subckts)) found → IsLeastOf (IsCyclicSubckt subckts top) found
cyclic_all subckts top marks found m sized inside =
    least_of_as (IsBelow (IsMarkedAt subckts marks) (length subckts)) (IsCyclicSubckt subckts top)
    (λ name b. let r = (m.exact b.index).0 b.has.marked in record { index = b.index; reached = r.0; itself = r.1; is = b.has.is })
    (λ name u. let marked = (m.exact u.index).1 (u.reached, u.itself) in record { index = u.index; before = omega (arith, inside u.index marked, m.sized); has = record { marked = marked; is = u.is } })
    found

-- a mark is one of those that there are
pub marked_inside : (marks : List Bool) (index : ℕ) → IsMarked marks index → index < length marks
marked_inside marks index h = elim (cases_lt index (length marks)) [
  | inl lt ↦ lt
  | inr ge ↦ let no_mark : false ≡ true = sym (get_or_past marks index false ge) ∙ h in absurd cc
]

pub some_is : (o : Option ℕ) → true ≡ is_some o → o ≡ None → ⊥
some_is None h e = absurd cc
some_is (Some n) h e = absurd cc

pub missing_at_none : (subckts : List ResolvedSubckt) (marks : List Bool) (index : ℕ) (instances : List ResolvedInstance) (found : Option (List ℕ)) → instances ≡ instances_at subckts index → IsLeastOf (IsMissingIn instances) found → found ≡ None
    → (name : List ℕ) → IsMissingAt subckts marks index name → ⊥
missing_at_none subckts marks index instances found is l none name m =
    let nothing : (n : List ℕ) → IsMissingIn instances n → ⊥ = subst (IsLeastOf (IsMissingIn instances)) none l in
    nothing name (subst (λ (ps : List ResolvedInstance). IsMissingIn ps name) (sym is) m.missing)

pub missing_at_least : (subckts : List ResolvedSubckt) (marks : List Bool) (index : ℕ) (instances : List ResolvedInstance) (found : Option (List ℕ)) (name : List ℕ) → instances ≡ instances_at subckts index → IsLeastOf (IsMissingIn instances) found → found ≡ Some name
    → IsMarked marks index → IsLeast (IsMissingAt subckts marks index) name
missing_at_least subckts marks index instances found name is l some marked =
    let least : IsLeast (IsMissingIn instances) name = subst (IsLeastOf (IsMissingIn instances)) some l in
    record {
      has = record { marked = marked; missing = subst (λ (ps : List ResolvedInstance). IsMissingIn ps name) is least.has };
      least = λ other m. least.least other (subst (λ (ps : List ResolvedInstance). IsMissingIn ps other) (sym is) m.missing);
    }

pub marked_at_least : (subckts : List ResolvedSubckt) (marks : List Bool) (index : ℕ) (name : List ℕ) → name ≡ subckt_name_at subckts index → IsMarked marks index → IsLeast (IsMarkedAt subckts marks index) name
marked_at_least subckts marks index name is marked = record {
  has = record { marked = marked; is = sym is };
  least = λ other m. self_least name other (is ∙ m.is);
}
