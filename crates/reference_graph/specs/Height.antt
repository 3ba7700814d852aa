-- How long the paths from a node are.
use Rattle.std.specs.Prelude.{◌≡◌, ◌⊎◌, ℕ, ◌+◌, ◌-◌, ◌^◌, ◌≤◌, min, List, length, slice_index, Contains}
use Rattle.reference_graph.specs.Reaches.{IsPath}

-- a path from the node has this many references, and none has more, where more than 2^32 - 1 count as that many
pub record IsHeight (graph : List (List ℕ)) (node height : ℕ) : Type 0 where
  pub path : List ℕ
  pub end : ℕ
  pub leads : IsPath graph node path end
  pub long : length path ≡ height
  pub most : (other : List ℕ) (to : ℕ) → IsPath graph node other to → min (length other) (2 ^ 32 - 1) ≤ height

-- a number for each node of the list, which for a node of the order is its height
pub record AreHeights (graph : List (List ℕ)) (order heights : List ℕ) : Type 0 where
  pub sized : length heights ≡ length graph
  pub each : (node : ℕ) → Contains order node → IsHeight graph node (slice_index heights node)

-- one more than the node's height, where more than 2^32 - 1 count as that many
abbrev pub height_above : List ℕ → ℕ → ℕ
height_above heights node = min (slice_index heights node + 1) (2 ^ 32 - 1)

-- one of the references is just below this height
pub record IsAboveOne (references heights : List ℕ) (height : ℕ) : Type 0 where
  pub node : ℕ
  pub stands : Contains references node
  pub is : height ≡ height_above heights node

-- the least height above all of the references, which is 0 where there are none
pub record IsAboveAll (references heights : List ℕ) (height : ℕ) : Type 0 where
  pub most : (node : ℕ) → Contains references node → height_above heights node ≤ height
  pub least : (height ≡ 0) ⊎ IsAboveOne references heights height
