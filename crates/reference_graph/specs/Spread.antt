-- Marks that spread from nodes that have been found to those that they refer to.
use Rattle.std.specs.Prelude.{◌≡◌, ◌⊎◌, ℕ, ◌+◌, Bool, cond, sum_by, List, ◌++◌, length, Contains}
use Rattle.reference_graph.specs.Reaches.{IsMarked}

-- how many nodes have no mark
abbrev pub unmarked : List Bool → ℕ
unmarked marks = sum_by (λ mark. cond mark 0 1) marks

-- the nodes that had no mark, out of these references, are marked and added to those that were found
pub record Spreads (references : List ℕ) (marks : List Bool) (found : List ℕ) (marks' : List Bool) (found' : List ℕ) : Type 0 where
  pub added : List ℕ
  pub grown : found' ≡ found ++ added
  pub from : (node : ℕ) → Contains added node → Contains references node
  pub each : (node : ℕ) → Contains references node → IsMarked marks' node
  pub kept : (node : ℕ) → IsMarked marks node → IsMarked marks' node
  pub only : (node : ℕ) → IsMarked marks' node → IsMarked marks node ⊎ Contains added node
  pub counted : unmarked marks' + length found' ≡ unmarked marks + length found
