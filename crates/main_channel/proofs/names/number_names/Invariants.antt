use Rattle.std.proofs.Common.{◌≡◌, ◌≤◌, ℕ, List, length, drop, Option}
use Rattle.std.specs.List.{position_from}
use Rattle.std.specs.Prelude.{nat_eq}
use Rattle.std.specs.Cmp.Lexicographic.{pointwise}
use Rattle.indexmap.specs.IndexMap.{get_by}
use Rattle.spice_netlist.specs.Names.{same_name}
use Rattle.main_channel.proofs.names.number_names.Given as goal

-- the table finds what stands from this index on
pub record IsFoundFrom (look : List ℕ → Option ℕ) (names : List (List ℕ)) (index : ℕ) : Type 0 where
  pub within : index ≤ length names
  pub is : (name : List ℕ) → look name ≡ position_from (same_name name) index (drop index names)

abbrev pub invariant-loop-index : goal.invariant-loop-index
invariant-loop-index l = IsFoundFrom (λ name. get_by (λ key. pointwise nat_eq name key.now) l.numbers) l.names l.index

abbrev pub decreases-loop-index : goal.decreases-loop-index
decreases-loop-index l = l.index
