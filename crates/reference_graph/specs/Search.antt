-- How far a search that goes down references has come.
use Rattle.std.specs.Prelude.{◌≡◌, ℕ, ◌<◌, List, length, slice_index, slice_index_or}
use Rattle.reference_graph.specs.declared.search.Stage.{Stage}
use Rattle.reference_graph.specs.declared.search.Stage.TheVariants.{Unseen, Placed}

-- the node is placed in the order
abbrev pub IsPlaced : List Stage → ℕ → Type 0
IsPlaced stages node = slice_index_or stages node Unseen ≡ Placed

-- each reference before this place is to a placed node
abbrev pub ArePlaced : List Stage → List ℕ → ℕ → Type 0
ArePlaced stages references place = (earlier : ℕ) → earlier < place → earlier < length references → IsPlaced stages (slice_index references earlier)

-- the reference at this place is the first that is not to a placed node
pub record IsNext (stages : List Stage) (references : List ℕ) (place : ℕ) : Type 0 where
  pub within : place < length references
  pub before : ArePlaced stages references place
  pub unplaced : IsPlaced stages (slice_index references place) → ⊥
