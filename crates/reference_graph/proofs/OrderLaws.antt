-- What an order in which each node comes after all that it refers to says of paths, and how to argue along it.
use Rattle.std.proofs.Common.{◌≡◌, ℕ, ◌<◌, ◌≤◌, List, [], ◌∷◌, length, get_or, sym, subst, ◌∙◌, arith}
use Rattle.std.specs.Prelude.{Contains}
use Rattle.std.proofs.lemmas.List.{get_or_default}
use Rattle.reference_graph.specs.Reaches.{RefersTo, IsPath, ReachesItself, IsAcyclic}
use Rattle.reference_graph.specs.BottomUp.{StandsBefore, IsBottomUp, IsOrder}

-- what stands before an earlier place stands before a later one
stands_later : (order : List ℕ) (place later node : ℕ) → place ≤ later → StandsBefore order place node → StandsBefore order later node
stands_later order place later node le s = record { earlier = s.earlier; before = omega (arith, s.before); is = s.is }

-- what a path that is not empty leads to stands before the node that it begins at
pub path_back : (graph : List (List ℕ)) (order : List ℕ) → IsBottomUp graph order → (place from next to : ℕ) (rest : List ℕ) → place < length order → from ≡ get_or order place 0
    → IsPath graph from (next ∷ rest) to → StandsBefore order place to
path_back graph order b place from next to [] lt e leads = subst (StandsBefore order place) (sym leads.1) (b.after place next lt (subst (λ (n : ℕ). RefersTo graph n next) e leads.0))
path_back graph order b place from next to (more ∷ rest) lt e leads =
    let s = b.after place next lt (subst (λ (n : ℕ). RefersTo graph n next) e leads.0) in
    stands_later order s.earlier place to (omega (arith, s.before)) (path_back graph order b s.earlier next more to rest (omega (arith, s.before)) (sym s.is) leads.1)

-- no node of the order reaches itself
pub not_itself : (graph : List (List ℕ)) (order : List ℕ) (node : ℕ) → IsBottomUp graph order → Contains order node → ReachesItself graph node → ⊥
not_itself graph order node b spot r =
    let here : node ≡ get_or order spot.0 0 = sym spot.2 ∙ get_or_default order spot.0 node 0 spot.1 in
    let s = path_back graph order b spot.0 node r.next node r.rest spot.1 here r.leads in
    b.once s.earlier spot.0 0 s.before spot.1 (s.is ∙ here)

pub acyclic : (graph : List (List ℕ)) (start : ℕ) (order : List ℕ) → IsOrder graph start order → IsAcyclic graph start
acyclic graph start order o node reached itself = not_itself graph order node o.bottom_up ((o.exact node).1 reached) itself

-- a path from the node at a place is at most as long as there are nodes before it
pub path_short : (graph : List (List ℕ)) (order : List ℕ) → IsBottomUp graph order → (place from to : ℕ) (path : List ℕ) → place < length order → from ≡ get_or order place 0 → IsPath graph from path to → length path ≤ place
path_short graph order b place from to [] lt e leads = omega arith
path_short graph order b place from to (next ∷ rest) lt e leads =
    let s = b.after place next lt (subst (λ (n : ℕ). RefersTo graph n next) e leads.0) in
    let h = path_short graph order b s.earlier next to rest (omega (arith, s.before)) (sym s.is) leads.1 in
    omega (arith, h, s.before)

-- what a node of the order refers to stands in the order
pub order_closed : (graph : List (List ℕ)) (order : List ℕ) (node to : ℕ) → IsBottomUp graph order → Contains order node → RefersTo graph node to → Contains order to
order_closed graph order node to b spot refers =
    let s = b.after spot.0 to spot.1 (subst (λ (n : ℕ). RefersTo graph n to) (sym spot.2 ∙ get_or_default order spot.0 node 0 spot.1) refers) in
    let lt : s.earlier < length order = omega (arith, s.before, spot.1) in
    (s.earlier, lt, get_or_default order s.earlier to 0 lt ∙ s.is)
