-- Orders in which each node comes after all that it refers to.
use Rattle.std.specs.Prelude.{◌≡◌, ◌≢◌, ◌↔◌, ℕ, ◌<◌, ◌≤◌, List, length, slice_index, Contains, All}
use Rattle.std.specs.List.{AllPairs}
use Rattle.reference_graph.specs.Reaches.{RefersTo, AreWithin, IsPath, Reaches, IsAcyclic}

-- the node stands in the order before this place
pub record StandsBefore (order : List ℕ) (place node : ℕ) : Type 0 where
  pub earlier : ℕ
  pub before : earlier < place
  pub is : slice_index order earlier ≡ node

-- nodes of the list, none twice, each after all that it refers to
pub record IsBottomUp (graph : List (List ℕ)) (order : List ℕ) : Type 0 where
  pub within : All (λ node. node < length graph) order
  pub once : AllPairs (λ first second. first ≢ second) order
  pub after : (place to : ℕ) → place < length order → RefersTo graph (slice_index order place) to → StandsBefore order place to

-- exactly the nodes that the start reaches, each once, each after all that it refers to
pub record IsOrder (graph : List (List ℕ)) (start : ℕ) (order : List ℕ) : Type 0 where
  pub exact : (node : ℕ) → Contains order node ↔ Reaches graph start node
  pub bottom_up : IsBottomUp graph order

-- where no reached node reaches itself, each path has fewer references than there are nodes
abbrev pub AcyclicPathsAreShort : Type 0
AcyclicPathsAreShort = (graph : List (List ℕ)) (start : ℕ) → AreWithin graph → start < length graph → IsAcyclic graph start
    → (path : List ℕ) (to : ℕ) → IsPath graph start path to → length path < length graph

-- each path has fewer references than an order of the reached nodes has nodes, and those are at most all nodes
pub record IsOrderLong (graph : List (List ℕ)) (start : ℕ) (order : List ℕ) : Type 0 where
  pub paths : (path : List ℕ) (to : ℕ) → IsPath graph start path to → length path < length order
  pub nodes : length order ≤ length graph

-- an order is longer than each path
abbrev pub OrdersAreLong : Type 0
OrdersAreLong = (graph : List (List ℕ)) (start : ℕ) (order : List ℕ) → IsOrder graph start order → IsOrderLong graph start order
