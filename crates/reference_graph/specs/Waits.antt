-- Nodes that wait while a search goes down references, each at its place, and those that it has settled.
use Rattle.std.specs.Prelude.{◌≡◌, ◌⊎◌, ℕ, ◌<◌, ◌≤◌, List, length, slice_index, slice_index_or, Contains}
use Rattle.reference_graph.specs.declared.cycle.Standing.{Standing}
use Rattle.reference_graph.specs.declared.cycle.Standing.TheVariants.{Unseen, Waiting, Settled}

-- the search has not come to the node
abbrev pub IsUnseen : List Standing → ℕ → Type 0
IsUnseen standings node = slice_index_or standings node Unseen ≡ Unseen

-- the node waits at this place
abbrev pub IsWaiting : List Standing → ℕ → ℕ → Type 0
IsWaiting standings node place = slice_index_or standings node Unseen ≡ Waiting place

-- the search is past the node and all that it reaches
abbrev pub IsSettled : List Standing → ℕ → Type 0
IsSettled standings node = slice_index_or standings node Unseen ≡ Settled

-- each reference before this place is to a node that the search has come to
abbrev pub AreSeen : List Standing → List ℕ → ℕ → Type 0
AreSeen standings references place = (earlier : ℕ) → earlier < place → earlier < length references → IsUnseen standings (slice_index references earlier) → ⊥

-- the reference at this place is the first to an unseen node
pub record IsNextUnseen (standings : List Standing) (references : List ℕ) (place : ℕ) : Type 0 where
  pub within : place < length references
  pub before : AreSeen standings references place
  pub unseen : IsUnseen standings (slice_index references place)

-- none of the references waits
abbrev pub NoneWaits : List Standing → List ℕ → Type 0
NoneWaits standings references = (node place : ℕ) → Contains references node → IsWaiting standings node place → ⊥

-- one of the references waits at this place, and none at a lesser one
pub record IsLeastWaiting (standings : List Standing) (references : List ℕ) (place : ℕ) : Type 0 where
  pub node : ℕ
  pub stands : Contains references node
  pub waits : IsWaiting standings node place
  pub least : (other at : ℕ) → Contains references other → IsWaiting standings other at → place ≤ at

-- the node is listed from this place on, before the end
pub record IsListedFrom (waiting : List ℕ) (place end node : ℕ) : Type 0 where
  pub at : ℕ
  pub from : place ≤ at
  pub before : at < end
  pub is : slice_index waiting at ≡ node

-- the nodes listed from this place on, before the end, are settled, and no other node's standing is changed
pub record AreSettled (waiting : List ℕ) (place end : ℕ) (standings standings' : List Standing) : Type 0 where
  pub settled : (node : ℕ) → IsListedFrom waiting place end node → IsSettled standings' node
  pub others : (node : ℕ) → IsListedFrom waiting place end node ⊎ (slice_index_or standings' node Unseen ≡ slice_index_or standings node Unseen)
