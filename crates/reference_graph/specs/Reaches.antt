-- Nodes that refer to one another: what is reached along references, and what reaches itself.
use Rattle.std.specs.Prelude.{◌≡◌, ◌↔◌, ℕ, ◌<◌, Bool, true, false, List, [], ◌∷◌, length, slice_index_or, Contains}

-- the node refers to the other; a node beyond the list refers to none
abbrev pub RefersTo : List (List ℕ) → ℕ → ℕ → Type 0
RefersTo graph node to = Contains (slice_index_or graph node []) to

-- each reference is to a node of the list
abbrev pub AreWithin : List (List ℕ) → Type 0
AreWithin graph = (node to : ℕ) → RefersTo graph node to → to < length graph

-- the first node refers to the first of the path, each of the path to the next, and the last of them is the end
abbrev pub IsPath : List (List ℕ) → ℕ → List ℕ → ℕ → Type 0
IsPath graph from [] to = to ≡ from
IsPath graph from (next ∷ rest) to = RefersTo graph from next × IsPath graph next rest to

-- a path leads from one to the other; the empty path leads each node to itself
pub record Reaches (graph : List (List ℕ)) (from to : ℕ) : Type 0 where
  pub path : List ℕ
  pub leads : IsPath graph from path to

-- a path that is not empty leads back
pub record ReachesItself (graph : List (List ℕ)) (node : ℕ) : Type 0 where
  pub next : ℕ
  pub rest : List ℕ
  pub leads : IsPath graph node (next ∷ rest) node

-- the mark of the node is set
abbrev pub IsMarked : List Bool → ℕ → Type 0
IsMarked marks node = slice_index_or marks node false ≡ true

-- a mark for each node, set exactly where the start reaches the node
pub record MarksReached (graph : List (List ℕ)) (start : ℕ) (marks : List Bool) : Type 0 where
  pub sized : length marks ≡ length graph
  pub exact : (node : ℕ) → IsMarked marks node ↔ Reaches graph start node

-- a node that the start reaches reaches itself
pub record HasCycle (graph : List (List ℕ)) (start : ℕ) : Type 0 where
  pub node : ℕ
  pub reached : Reaches graph start node
  pub itself : ReachesItself graph node

-- no node that the start reaches reaches itself
abbrev pub IsAcyclic : List (List ℕ) → ℕ → Type 0
IsAcyclic graph start = (node : ℕ) → Reaches graph start node → ReachesItself graph node → ⊥

-- the least node that the start reaches and that reaches itself
pub record IsLeastCyclic (graph : List (List ℕ)) (start node : ℕ) : Type 0 where
  pub reached : Reaches graph start node
  pub itself : ReachesItself graph node
  pub least : (other : ℕ) → other < node → Reaches graph start other → ReachesItself graph other → ⊥

-- a mark for each node, set exactly where the start reaches the node and it reaches itself
pub record CyclesMarked (graph : List (List ℕ)) (start : ℕ) (marks : List Bool) : Type 0 where
  pub sized : length marks ≡ length graph
  pub exact : (node : ℕ) → IsMarked marks node ↔ (Reaches graph start node × ReachesItself graph node)
