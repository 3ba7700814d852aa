-- What an instance of a written subcircuit flattens to.
use Rattle.std.proofs.Common.{◌≡◌, ℕ, suc, List, [], ◌∷◌, ◌++◌, map, length, false, Option, Some, sym, ap, subst, ◌∙◌}
use Rattle.netlist.specs.declared.deck.Instance.{Instance}
use Rattle.spice_netlist.specs.declared.resolved.ResolvedSubckt.{ResolvedSubckt}
use Rattle.spice_text.specs.Words.{lower}
use Rattle.spice_netlist.specs.Resolved.{resolved_instance, ports_at, leaf_at, instances_at}
use Rattle.spice_netlist.specs.Walk.{FlatNet, local, FlatInstance, visits_in, visits_by}
use Rattle.spice_netlist.specs.Pins.{NamedPin}
use Rattle.row_laws.specs.Flattens.{Flattens, see_in, IsDeep, inside_instance}
use Rattle.row_laws.proofs.FlatLaws.{flat_cell}
use Rattle.row_laws.proofs.InLaws.{in_is, in_deep}
use Rattle.row_laws.proofs.LookLaws.{look}
use Rattle.sram_rows.proofs.LeafInstances.{below}

-- a net that is local in an instance of this name
abbrev pub net_within : List ℕ → List ℕ → FlatNet
net_within instance n = record { path = instance ∷ []; name = n }

-- the subcircuit of this name among the subcircuits
pub record HasSubckt (subckts : List ResolvedSubckt) (find : List ℕ → Option ℕ) (name : List ℕ) (ports : List (List ℕ)) (instances : List Instance) : Type 0 where
  pub index : ℕ
  pub there : find (lower name) ≡ Some index
  pub no_leaf : leaf_at subckts index ≡ false
  pub ported : ports_at subckts index ≡ ports
  pub has : instances_at subckts index ≡ map (resolved_instance find) instances

-- an instance of it under this label with these nodes
pub record IsInstanceOf (i : Instance) (name label : List ℕ) (ports nodes : List (List ℕ)) : Type 0 where
  pub of : i.of ≡ name
  pub named : lower i.name ≡ label
  pub joined : map lower i.nodes ≡ nodes
  pub sized : length ports ≡ length nodes

module _ (subckts : List ResolvedSubckt) (find : List ℕ → Option ℕ) (name : List ℕ) (ports : List (List ℕ)) (instances : List Instance) (c : HasSubckt subckts find name ports instances)
    (see : FlatNet → List ℕ) (i : Instance) (label : List ℕ) (nodes : List (List ℕ)) (is : IsInstanceOf i name label ports nodes) where
  -- what is seen of names inside
  pub seen_is : (n : List ℕ) → see_in subckts see (resolved_instance find i) c.index (local n) ≡ see (look (net_within label n) ports nodes n)
  seen_is n = in_is subckts see (resolved_instance find i) c.index label ports nodes is.named is.joined c.ported is.sized n

  pub seen_deep : (inside : List ℕ) → IsDeep see inside → IsDeep (see_in subckts see (resolved_instance find i) c.index) (inside_instance inside label)
  seen_deep inside deep = in_deep subckts see (resolved_instance find i) c.index inside label is.named deep

  pub subckt_flat : {X : Type 0} (row_of : X → List NamedPin) (d : ℕ) (above : List ℕ) (xs : List X)
      → Flattens row_of subckts (above ++ (label ++ (47 ∷ []))) (see_in subckts see (resolved_instance find i) c.index) (visits_by subckts (below subckts d) (map (resolved_instance find) instances)) xs
      → Flattens row_of subckts above see (visits_in subckts (below subckts (suc d)) (resolved_instance find i) (resolved_instance find i).index) xs
  subckt_flat row_of d above xs inner =
      flat_cell row_of subckts above see (below subckts (suc d)) (resolved_instance find i) c.index xs (ap (λ (n : List ℕ). find (lower n)) is.of ∙ c.there) c.no_leaf
      (ap length is.joined ∙ sym is.sized ∙ ap length (sym c.ported))
      (subst (λ (vs : List FlatInstance). Flattens row_of subckts (above ++ ((resolved_instance find i).name ++ (47 ∷ []))) (see_in subckts see (resolved_instance find i) c.index) vs xs) (sym (ap (visits_by subckts (below subckts d)) c.has))
      (subst (λ (l : List ℕ). Flattens row_of subckts (above ++ (l ++ (47 ∷ []))) (see_in subckts see (resolved_instance find i) c.index) (visits_by subckts (below subckts d) (map (resolved_instance find) instances)) xs) (sym is.named) inner))
