-- The least name that isn't there, and the least of a cycle, where there are any.
use Rattle.std.proofs.Common.{◌≡◌, ◌⊎◌, inl, inr, ℕ, zero, suc, ◌+◌, ◌<◌, List, [], ◌∷◌, length, Option, None, Some, refl, sym, subst, ◌∙◌, arith}
use Rattle.std.proofs.Math.Numerals.{suc-eq-add-one}
use Rattle.or_geom.proofs.ListLaws.{contains_none, contains_cases, contains_first, contains_later}
use Rattle.reference_graph.specs.Reaches.{AreWithin, Reaches, ReachesItself}
use Rattle.reference_graph.proofs.PathLaws.{reaches_within}
use Rattle.spice_netlist.specs.declared.resolved.ResolvedSubckt.{ResolvedSubckt}
use Rattle.spice_netlist.specs.declared.resolved.ResolvedInstance.{ResolvedInstance}
use Rattle.spice_netlist.specs.Least.{IsLeastOf, IsMissingIn, lesser_of}
use Rattle.spice_netlist.specs.Resolved.{instances_at, subckt_name_at, graph}
use Rattle.spice_netlist.specs.Faults.{IsUnknownSubckt, IsCyclicSubckt}
use Rattle.spice_netlist.proofs.LeastLaws.{IsBelow, least_of_as, least_with, self_least, below_none, below_skip, below_least}
use Rattle.spice_netlist.proofs.ResolvedLaws.{graph_long}
use Rattle.row_answers.proofs.ReachLaws.{reaches_or_not, itself_or_not}

-- the least name that has P, or that none has
pub record LeastFound (P : List ℕ → Type 0) : Type 0 where
  pub found : Option (List ℕ)
  pub is : IsLeastOf P found

found_as : (P R : List ℕ → Type 0) → ((n : List ℕ) → P n → R n) → ((n : List ℕ) → R n → P n) → LeastFound P → LeastFound R
found_as P R to from l = record { found = l.found; is = least_of_as P R to from l.found l.is }

-- among names that have Q of an index below the end
found_below : (Q : ℕ → List ℕ → Type 0) → ((index : ℕ) → LeastFound (Q index)) → (end : ℕ) → LeastFound (IsBelow Q end)
found_below Q each zero = record { found = None; is = below_none Q }
found_below Q each (suc end) =
    subst (λ (n : ℕ). LeastFound (IsBelow Q n)) (sym (suc-eq-add-one end)) (one_more (each end).found (each end).is (found_below Q each end))
  where
    one_more : (name : Option (List ℕ)) → IsLeastOf (Q end) name → LeastFound (IsBelow Q end) → LeastFound (IsBelow Q (end + 1))
    one_more None none l = record { found = l.found; is = below_skip Q end l.found none l.is }
    one_more (Some name) least l = record { found = Some (lesser_of l.found name); is = below_least Q end l.found name least l.is }

-- where it is known whether D holds
found_where : (D : Type 0) (P : List ℕ → Type 0) → D ⊎ (D → ⊥) → LeastFound P → LeastFound (λ name. D × P name)
found_where D P (inl d) l = found_as P (λ name. D × P name) (λ name p. (d, p)) (λ name both. both.1) l
found_where D P (inr none) l = record { found = None; is = λ name both. none both.0 }

missing_before : (instance : ResolvedInstance) (instances : List ResolvedInstance) (name : List ℕ) → IsMissingIn instances name
    → IsMissingIn (instance ∷ instances) name
missing_before instance instances name m = record {
  instance = m.instance;
  stands = contains_later instance instances m.instance m.stands;
  missing = m.missing;
  is = m.is;
}

missing_cases : (instance : ResolvedInstance) (instances : List ResolvedInstance) (name : List ℕ)
    → IsMissingIn (instance ∷ instances) name → IsMissingIn instances name ⊎ ((instance.index ≡ None) × (name ≡ instance.of))
missing_cases instance instances name m = elim (contains_cases instance instances m.instance m.stands) [
  | inl e ↦ inr (subst (λ (i : ResolvedInstance). i.index ≡ None) e m.missing, subst (λ (i : ResolvedInstance). name ≡ i.of) e (sym m.is))
  | inr later ↦ inl (record { instance = m.instance; stands = later; missing = m.missing; is = m.is })
]

missing_found : (instances : List ResolvedInstance) → LeastFound (IsMissingIn instances)
missing_found [] = record { found = None; is = λ name m. contains_none m.instance m.stands }
missing_found (instance ∷ instances) = by instance.index refl (missing_found instances)
  where
    by : (index : Option ℕ) → instance.index ≡ index → LeastFound (IsMissingIn instances) → LeastFound (IsMissingIn (instance ∷ instances))
    by (Some index) there l =
        found_as (IsMissingIn instances) (IsMissingIn (instance ∷ instances)) (missing_before instance instances)
        (λ name m. elim (missing_cases instance instances name m) [
          | inl old ↦ old
          | inr e ↦ (let both : Some index ≡ None = sym there ∙ e.0 in absurd cc)
        ])
        l
    by None none l = record {
      found = Some (lesser_of l.found instance.of);
      is = least_with (IsMissingIn instances) (IsMissingIn (instance ∷ instances)) l.found instance.of l.is (missing_before instance instances)
          (record { instance = instance; stands = contains_first instance instances; missing = none; is = refl })
          (λ name m. elim (missing_cases instance instances name m) [ inl old ↦ inl old | inr e ↦ inr e.1 ]);
    }

-- the name alone
one_found : (name : List ℕ) → LeastFound (λ other. name ≡ other)
one_found name = record { found = Some name; is = record { has = refl; least = λ other e. self_least name other e } }

module _ (subckts : List ResolvedSubckt) (top : ℕ) (within : AreWithin (graph subckts)) (inside : top < length subckts) where
  reached_inside : (index : ℕ) → Reaches (graph subckts) top index → index < length subckts
  reached_inside index r =
      let lt = reaches_within (graph subckts) top index within (omega (arith, inside, graph_long subckts)) r in
      omega (arith, lt, graph_long subckts)

  pub unknown_found : LeastFound (IsUnknownSubckt subckts top)
  unknown_found =
      let Q = λ (index : ℕ) (name : List ℕ). Reaches (graph subckts) top index × IsMissingIn (instances_at subckts index) name in
      found_as (IsBelow Q (length subckts)) (IsUnknownSubckt subckts top)
      (λ name b. record { index = b.index; reached = b.has.0; missing = b.has.1 })
      (λ name u. record { index = u.index; before = reached_inside u.index u.reached; has = (u.reached, u.missing) })
      (found_below Q
      (λ index. found_where (Reaches (graph subckts) top index) (IsMissingIn (instances_at subckts index))
      (reaches_or_not (graph subckts) within top index) (missing_found (instances_at subckts index)))
      (length subckts))

  pub cyclic_found : LeastFound (IsCyclicSubckt subckts top)
  cyclic_found =
      let P = λ (index : ℕ) (name : List ℕ). ReachesItself (graph subckts) index × (subckt_name_at subckts index ≡ name) in
      let Q = λ (index : ℕ) (name : List ℕ). Reaches (graph subckts) top index × P index name in
      found_as (IsBelow Q (length subckts)) (IsCyclicSubckt subckts top)
      (λ name b. record { index = b.index; reached = b.has.0; itself = b.has.1.0; is = b.has.1.1 })
      (λ name u. record { index = u.index; before = reached_inside u.index u.reached; has = (u.reached, (u.itself, u.is)) })
      (found_below Q
      (λ index. found_where (Reaches (graph subckts) top index) (P index) (reaches_or_not (graph subckts) within top index)
      (found_where (ReachesItself (graph subckts) index) (λ name. subckt_name_at subckts index ≡ name)
      (itself_or_not (graph subckts) within index) (one_found (subckt_name_at subckts index))))
      (length subckts))
