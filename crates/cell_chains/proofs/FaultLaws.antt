-- What the graph says of the chains from the top: what is missing, what is cyclic, how long they are.
use Rattle.std.proofs.Common.{◌≡◌, ◌≢◌, inl, inr, ℕ, suc, ◌-◌, ◌^◌, ◌<◌, ◌≤◌, min, List, [], ◌∷◌, length, get_or, Option, None, sym, ap, subst, ◌∙◌, arith}
use Rattle.std.specs.List.{AllByRecursion}
use Rattle.std.specs.Ordering.{nat_cmp}
use Rattle.std.specs.Cmp.Lexicographic.{slice_cmp}
use Rattle.std.specs.declared.cmp.Ordering.TheVariants.{Greater}
use Rattle.std.proofs.lemmas.Bool.{cases_lt}
use Rattle.or_geom.specs.Least.{IsLeast}
use Rattle.reference_graph.specs.Reaches as paths
use Rattle.reference_graph.specs.Reaches.{IsPath, IsAcyclic, IsLeastCyclic}
use Rattle.reference_graph.specs.Height.{IsHeight}
use Rattle.reference_graph.proofs.PathLaws.{reaches_within}
use Rattle.gds_library.specs.declared.library.Structure.{Structure}
use Rattle.gds_library.specs.Writable.{IsWritableCell}
use Rattle.cell_chains.specs.Instances.{Item}
use Rattle.cell_chains.specs.Chains.{IsThere, IsChain, Reaches, ReachesItself, IsMissing, IsCyclic, IsDepth}
use Rattle.cell_chains.specs.Numbering.{texts, name_at, Rises, IsNodeNamed, AreFirsts, IsGraph, AreNamedNodes}
use Rattle.cell_chains.specs.declared.nodes.Nodes.{Nodes}
use Rattle.cell_chains.specs.Listing.{IsLeastUnknown, AreKnown}
use Rattle.cell_chains.proofs.NameLaws.{one_node, not_greater, text_at}
use Rattle.cell_chains.proofs.FirstLaws.{has_none, missing_none}
use Rattle.cell_chains.proofs.ChainLaws.{graph_within, chain_along, path_along}
use denote.Ref.{Bor}

-- a library's structures, the names below a top, and who refers to whom
pub record IsSetting (structs : List Structure) (top : List ℕ) (names : List (List ℕ)) (graph : List (List ℕ)) (start : ℕ) : Type 0 where
  pub writable : AllByRecursion IsWritableCell structs
  pub rises : Rises names
  pub graph_is : IsGraph structs names graph
  pub start_is : IsNodeNamed names top start

-- what is reached in the graph is reached by its name
pub reach_down : (structs : List Structure) (top : List ℕ) (names : List (List ℕ)) (graph : List (List ℕ)) (start : ℕ) → IsSetting structs top names graph start → (node : ℕ) → paths.Reaches graph start node → Reaches structs top (name_at names node)
reach_down structs top names graph start s node r =
    let c = chain_along structs names graph s.writable s.graph_is start node r.path s.start_is.within r.leads in
    record { chain = c.chain; leads = subst (λ (n : List ℕ). IsChain structs n c.chain (name_at names node)) s.start_is.named c.leads }

pub record HasNode (names : List (List ℕ)) (graph : List (List ℕ)) (start : ℕ) (name : List ℕ) : Type 0 where
  pub node : ℕ
  pub within : node < length names
  pub named : name_at names node ≡ name
  pub reached : paths.Reaches graph start node

-- a name that is reached has a node that is reached
pub reach_up : (structs : List Structure) (top : List ℕ) (names : List (List ℕ)) (graph : List (List ℕ)) (start : ℕ) → IsSetting structs top names graph start → (name : List ℕ) → Reaches structs top name → HasNode names graph start name
reach_up structs top names graph start s name r =
    let p = path_along structs names graph s.graph_is start name r.chain s.start_is.within (subst (λ (n : List ℕ). IsChain structs n r.chain name) (sym s.start_is.named) r.leads) in
    record { node = p.to; within = p.within; named = p.named; reached = record { path = p.path; leads = p.leads } }

node_missing : (structs : List Structure) (names : List (List ℕ)) (firsts : List (Option ℕ)) (node : ℕ) (name : List ℕ) → AreFirsts structs names firsts → node < length names → name_at names node ≡ name → (IsThere structs name → ⊥) → get_or firsts node None ≡ None
node_missing structs names firsts node name f lt named missing = f.each node lt ∙ missing_none structs (name_at names node) (λ there. missing (subst (λ (n : List ℕ). IsThere structs n) named there))

not_after : (names : List (List ℕ)) (node other : ℕ) (name : List ℕ) → Rises names → node ≤ other → other < length names → name_at names other ≡ name → slice_cmp nat_cmp (name_at names node) name ≢ Greater
not_after names node other name rises le lt named = subst (λ (n : List ℕ). slice_cmp nat_cmp (name_at names node) n ≢ Greater) named (not_greater names node other rises le lt)

-- the least node without a structure has the least name that is missing
pub least_missing : (structs : List Structure) (top : List ℕ) (names : List (List ℕ)) (firsts : List (Option ℕ)) (graph : List (List ℕ)) (start : ℕ) → IsSetting structs top names graph start → AreFirsts structs names firsts → (node : ℕ)
    → IsLeastUnknown graph firsts start node → IsLeast (IsMissing structs top) (name_at names node)
least_missing structs top names firsts graph start s f node u =
    let inside : node < length names = omega (arith, u.within, s.graph_is.sized) in
    record {
      has = record { reached = reach_down structs top names graph start s node u.reached; missing = (has_none 0 structs (name_at names node) (sym (f.each node inside) ∙ u.unknown)).missing };
      least = λ other m.
          let h = reach_up structs top names graph start s other m.reached in
          elim (cases_lt h.node node) [
            | inl lt ↦ absurd (u.least h.node lt h.reached (node_missing structs names firsts h.node other f h.within h.named m.missing))
            | inr ge ↦ not_after names node h.node other s.rises ge h.within h.named
          ];
    }

pub none_missing : (structs : List Structure) (top : List ℕ) (names : List (List ℕ)) (firsts : List (Option ℕ)) (graph : List (List ℕ)) (start : ℕ) → IsSetting structs top names graph start → AreFirsts structs names firsts → AreKnown graph firsts start
    → (other : List ℕ) → IsMissing structs top other → ⊥
none_missing structs top names firsts graph start s f known other m =
    let h = reach_up structs top names graph start s other m.reached in
    known h.node h.reached (node_missing structs names firsts h.node other f h.within h.named m.missing)

chain_itself : (structs : List Structure) (name : List ℕ) (chain : List Item) (count : ℕ) → length chain ≡ suc count → IsChain structs name chain name → ReachesItself structs name
chain_itself structs name [] count long leads = absurd (omega (arith, long))
chain_itself structs name (item ∷ rest) count long leads = record { item = item; rest = rest; leads = leads }

path_itself : (graph : List (List ℕ)) (node : ℕ) (path : List ℕ) (count : ℕ) → length path ≡ suc count → IsPath graph node path node → paths.ReachesItself graph node
path_itself graph node [] count long leads = absurd (omega (arith, long))
path_itself graph node (next ∷ rest) count long leads = record { next = next; rest = rest; leads = leads }

itself_down : (structs : List Structure) (names : List (List ℕ)) (graph : List (List ℕ)) → AllByRecursion IsWritableCell structs → IsGraph structs names graph → (node : ℕ) → node < length names → paths.ReachesItself graph node
    → ReachesItself structs (name_at names node)
itself_down structs names graph w g node lt i =
    let c = chain_along structs names graph w g node node (i.next ∷ i.rest) lt i.leads in
    chain_itself structs (name_at names node) c.chain (length i.rest) c.long c.leads

itself_up : (structs : List Structure) (names : List (List ℕ)) (graph : List (List ℕ)) → Rises names → IsGraph structs names graph → (node : ℕ) (name : List ℕ) → node < length names → name_at names node ≡ name → ReachesItself structs name
    → paths.ReachesItself graph node
itself_up structs names graph rises g node name lt named i =
    let p = path_along structs names graph g node name (i.item ∷ i.rest) lt (subst (λ (n : List ℕ). IsChain structs n (i.item ∷ i.rest) name) (sym named) i.leads) in
    let same : p.to ≡ node = one_node names p.to node rises p.within lt (p.named ∙ sym named) in
    path_itself graph node p.path (length i.rest) p.long (subst (λ (k : ℕ). IsPath graph node p.path k) same p.leads)

-- the least node that reaches itself has the least such name
pub least_cycle : (structs : List Structure) (top : List ℕ) (names : List (List ℕ)) (graph : List (List ℕ)) (start : ℕ) → IsSetting structs top names graph start → (node : ℕ) → IsLeastCyclic graph start node
    → IsLeast (IsCyclic structs top) (name_at names node)
least_cycle structs top names graph start s node l =
    let start_in : start < length graph = omega (arith, s.start_is.within, s.graph_is.sized) in
    let in_graph : node < length graph = reaches_within graph start node (graph_within structs names graph s.graph_is) start_in l.reached in
    let inside : node < length names = omega (arith, s.graph_is.sized) in
    record {
      has = record { reached = reach_down structs top names graph start s node l.reached; itself = itself_down structs names graph s.writable s.graph_is node inside l.itself };
      least = λ other m.
          let h = reach_up structs top names graph start s other m.reached in
          elim (cases_lt h.node node) [
            | inl lt ↦ absurd (l.least h.node lt h.reached (itself_up structs names graph s.rises s.graph_is h.node other h.within h.named m.itself))
            | inr ge ↦ not_after names node h.node other s.rises ge h.within h.named
          ];
    }

pub none_cyclic : (structs : List Structure) (top : List ℕ) (names : List (List ℕ)) (graph : List (List ℕ)) (start : ℕ) → IsSetting structs top names graph start → IsAcyclic graph start → (other : List ℕ) → IsCyclic structs top other → ⊥
none_cyclic structs top names graph start s acyclic other m =
    let h = reach_up structs top names graph start s other m.reached in
    acyclic h.node h.reached (itself_up structs names graph s.rises s.graph_is h.node other h.within h.named m.itself)

chain_high : (structs : List Structure) (top : List ℕ) (names : List (List ℕ)) (graph : List (List ℕ)) (start : ℕ) → IsSetting structs top names graph start → (height : ℕ) → IsHeight graph start height → (chain : List Item) (to : List ℕ)
    → IsChain structs top chain to → min (length chain) (2 ^ 32 - 1) ≤ height
chain_high structs top names graph start s height h chain to leads =
    let p = path_along structs names graph s.graph_is start to chain s.start_is.within (subst (λ (n : List ℕ). IsChain structs n chain to) (sym s.start_is.named) leads) in
    subst (λ (n : ℕ). min n (2 ^ 32 - 1) ≤ height) p.long (h.most p.path p.to p.leads)

-- the height of the top is the length of the longest chain
pub depth_of : (structs : List Structure) (top : List ℕ) (names : List (List ℕ)) (graph : List (List ℕ)) (start : ℕ) → IsSetting structs top names graph start → (height : ℕ) → height < 2 ^ 32 → IsHeight graph start height → IsDepth structs top height
depth_of structs top names graph start s height small h =
    let c = chain_along structs names graph s.writable s.graph_is start h.end h.path s.start_is.within h.leads in
    let long : length c.chain ≡ height = c.long ∙ h.long in
    record {
      chain = c.chain;
      end = name_at names h.end;
      leads = subst (λ (n : List ℕ). IsChain structs n c.chain (name_at names h.end)) s.start_is.named c.leads;
      long = omega (arith, long, small);
      most = chain_high structs top names graph start s height h;
    }

pub chains_short : (structs : List Structure) (top : List ℕ) (names : List (List ℕ)) (graph : List (List ℕ)) (start : ℕ) → IsSetting structs top names graph start → (height : ℕ) → height ≤ 32 → IsHeight graph start height → (chain : List Item) (to : List ℕ)
    → IsChain structs top chain to → length chain ≤ 32
chains_short structs top names graph start s height low h chain to leads = let le = chain_high structs top names graph start s height h chain to leads in omega (arith, le, low)

pub setting_of : (structs : List Structure) (top : List ℕ) (nodes : Nodes) → AllByRecursion IsWritableCell structs → AreNamedNodes structs top nodes → IsSetting structs top (texts nodes.names.items) nodes.graph.items nodes.top
setting_of structs top nodes w n = record { writable = w; rises = n.numbered.rises; graph_is = n.numbered.graph; start_is = n.start }

-- the name that was read
pub read_name : (names : List (Bor (List ℕ))) (node : ℕ) (read : Bor (List ℕ)) (name : List ℕ) → node < length names → read ≡ get_or names node read → name ≡ read.now → name_at (texts names) node ≡ name
read_name names node read name lt is e = text_at names node read lt ∙ (ap (λ (b : Bor (List ℕ)). b.now) (sym is) ∙ sym e)
