use Rattle.std.proofs.Common.{◌≡◌, ◌≤◌, ℕ, List, length, drop, Option}
use Rattle.std.specs.List.{position_from}
use Rattle.std.specs.Prelude.{nat_eq}
use Rattle.std.specs.Cmp.Lexicographic.{pointwise}
use Rattle.indexmap.specs.IndexMap.{get_by}
use Rattle.net_extractor.specs.KeyPlaces.{same_bytes}
use Rattle.net_extractor.proofs.key_places.key_places.Given as goal

-- the table finds what stands from this place on
pub record IsFoundFrom (look : List ℕ → Option ℕ) (names : List (List ℕ)) (place : ℕ) : Type 0 where
  pub within : place ≤ length names
  pub is : (name : List ℕ) → look name ≡ position_from (same_bytes name) place (drop place names)

abbrev pub invariant-loop-place : goal.invariant-loop-place
invariant-loop-place l = IsFoundFrom (λ name. get_by (λ key. pointwise nat_eq name key.now) l.places) l.keys l.place

abbrev pub decreases-loop-place : goal.decreases-loop-place
decreases-loop-place l = l.place
