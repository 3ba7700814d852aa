-- Paths have few references where no node reaches itself, since no node stands on them twice.
use Rattle.std.proofs.Common.{◌≡◌, ℕ, ◌<◌, ◌≤◌, false, eqb, List, [], ◌∷◌, length, get_or, refl, sym, subst, ◌∙◌, arith, ne_eqb, eqb-true}
use Rattle.std.specs.Prelude.{All}
use Rattle.std.specs.List.{IsDistinct, AllByRecursion}
use Rattle.std.proofs.lemmas.List.{get_or_default}
use Rattle.std.proofs.lemmas.List.Elements.{All-contains, All-nil, All-cons}
use Rattle.std.proofs.lemmas.Bool.Decides.{Decides-eqb}
use Rattle.std.proofs.lemmas.Map.Views.{Contains-from_any}
use Rattle.std.proofs.lemmas.Map.Made.{IsDistinct-from_AllPairs}
use Rattle.std.proofs.lemmas.Map.Steps.{length-le_from_distinct_below}
use Rattle.reference_graph.specs.Reaches.{RefersTo, AreWithin, IsPath, Reaches, ReachesItself, IsAcyclic}
use Rattle.reference_graph.specs.BottomUp.{IsOrder, IsOrderLong}
use Rattle.reference_graph.proofs.PathLaws.{reaches_start, reaches_on, itself_from}
use Rattle.reference_graph.proofs.OrderLaws.{path_short}

-- different nodes of the list are at most all nodes
at_most_all : (nodes : List ℕ) (count : ℕ) → All (λ node. node < count) nodes → IsDistinct eqb nodes → length nodes ≤ count
at_most_all nodes count below distinct =
    length-le_from_distinct_below nodes count distinct (λ q any. All-contains (λ (node : ℕ). node < count) nodes q below (Contains-from_any eqb-true q nodes any))

-- a node that does not reach itself stands on no path from it
apart_from : (graph : List (List ℕ)) (from node to : ℕ) (path : List ℕ) → (ReachesItself graph from → ⊥) → Reaches graph from node → IsPath graph node path to → AllByRecursion (λ other. eqb from other ≡ false) path
apart_from graph from node to [] not reached leads = tt
apart_from graph from node to (next ∷ rest) not reached leads = (
  ne_eqb from next (λ e. not (itself_from graph from node reached (subst (RefersTo graph node) (sym e) leads.0))),
  apart_from graph from next to rest not (reaches_on graph from node next reached leads.0) leads.1,
)

path_distinct : (graph : List (List ℕ)) (start node to : ℕ) (path : List ℕ) → IsAcyclic graph start → Reaches graph start node → IsPath graph node path to → IsDistinct eqb (node ∷ path)
unfolding IsDistinct
path_distinct graph start node to [] acyclic reached leads = (tt, tt)
path_distinct graph start node to (next ∷ rest) acyclic reached leads = (
  apart_from graph node node to (next ∷ rest) (acyclic node reached) (reaches_start graph node node refl) leads,
  path_distinct graph start next to rest acyclic (reaches_on graph start node next reached leads.0) leads.1,
)

path_below : (graph : List (List ℕ)) (node to : ℕ) (path : List ℕ) → AreWithin graph → node < length graph → IsPath graph node path to → All (λ other. other < length graph) (node ∷ path)
path_below graph node to [] within inside leads = All-cons (λ (other : ℕ). other < length graph) node [] inside (All-nil (λ (other : ℕ). other < length graph))
path_below graph node to (next ∷ rest) within inside leads =
    All-cons (λ (other : ℕ). other < length graph) node (next ∷ rest) inside (path_below graph next to rest within (within node next leads.0) leads.1)

pub acyclic_paths_short : (graph : List (List ℕ)) (start : ℕ) → AreWithin graph → start < length graph → IsAcyclic graph start → (path : List ℕ) (to : ℕ) → IsPath graph start path to → length path < length graph
acyclic_paths_short graph start within inside acyclic path to leads =
    let h = at_most_all (start ∷ path) (length graph) (path_below graph start to path within inside leads) (path_distinct graph start start to path acyclic (reaches_start graph start start refl) leads) in
    omega (arith, h)

pub order_long : (graph : List (List ℕ)) (start : ℕ) (order : List ℕ) → IsOrder graph start order → IsOrderLong graph start order
order_long graph start order o =
    let spot = (o.exact start).1 (reaches_start graph start start refl) in
    let here : start ≡ get_or order spot.0 0 = sym spot.2 ∙ get_or_default order spot.0 start 0 spot.1 in
    record {
      paths = λ path to leads. let h = path_short graph order o.bottom_up spot.0 start to path spot.1 here leads in omega (arith, h, spot.1);
      nodes = at_most_all order (length graph) o.bottom_up.within (IsDistinct-from_AllPairs Decides-eqb order o.bottom_up.once);
    }
