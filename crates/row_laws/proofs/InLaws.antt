-- What is seen inside an instance, by what is seen outside.
use Rattle.std.proofs.Common.{◌≡◌, ℕ, List, [], ◌∷◌, ◌++◌, length, sym, ap, ◌∙◌, append_assoc}
use Rattle.spice_netlist.specs.declared.resolved.ResolvedSubckt.{ResolvedSubckt}
use Rattle.spice_netlist.specs.declared.resolved.ResolvedInstance.{ResolvedInstance}
use Rattle.spice_netlist.specs.Resolved.{ports_at}
use Rattle.spice_netlist.specs.Walk.{FlatNet, local, net_above}
use Rattle.spice_netlist.specs.NetKeys.{path_key}
use Rattle.row_laws.specs.Flattens.{see_in, IsDeep, inside_instance}
use Rattle.row_laws.proofs.LookLaws.{look, node_is}

behind : (a b c : List ℕ) → a ++ (b ++ 65 ∷ c) ≡ inside_instance a b ++ c
behind a b c = sym (append_assoc a (b ++ (65 ∷ [])) c ∙ ap (λ (l : List ℕ). a ++ l) (append_assoc b (65 ∷ []) c))

module _ (subckts : List ResolvedSubckt) (see : FlatNet → List ℕ) (p : ResolvedInstance) (k : ℕ) where
  -- a name of the subcircuit, by its ports and the instance's nodes
  pub in_is : (label : List ℕ) (ports nodes : List (List ℕ)) → p.name ≡ label → p.nodes ≡ nodes → ports_at subckts k ≡ ports → length ports ≡ length nodes
      → (n : List ℕ) → see_in subckts see p k (local n) ≡ see (look (record { path = label ∷ []; name = n }) ports nodes n)
  in_is label ports nodes named joined ported sized n =
      ap see (ap (λ (ps : List (List ℕ)). net_above p ps (local n)) ported
      ∙ node_is p ports n (sized ∙ ap length (sym joined))
      ∙ (λ i. look (record { path = named i ∷ []; name = n }) ports (joined i) n))

  pub in_deep : (inside label : List ℕ) → p.name ≡ label → IsDeep see inside → IsDeep (see_in subckts see p k) (inside_instance inside label)
  in_deep inside label named deep instance path name =
      deep p.name (instance ∷ path) name
      ∙ ap (λ (l : List ℕ). inside ++ (l ++ 65 ∷ path_key (instance ∷ path) name)) named
      ∙ behind inside label (path_key (instance ∷ path) name)

pub local_in : (see : FlatNet → List ℕ) (inside label n : List ℕ) → IsDeep see inside
    → see (record { path = label ∷ []; name = n }) ≡ inside_instance inside label ++ n
local_in see inside label n deep = deep label [] n ∙ behind inside label n
