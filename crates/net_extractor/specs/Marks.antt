-- Sets of the shapes of trees, and marks of the nodes whose shapes are known to be of one set.
use Rattle.std.specs.Prelude.{◌≡◌, ℕ, ◌<◌, ◌≤◌, Bool, true, false, List, length, slice_get, slice_index_or, Some, Contains}
use Rattle.shape_bins.specs.declared.forest.Forest.{Forest}
use Rattle.shape_bins.specs.declared.node.Node.{Node}
use Rattle.shape_bins.specs.Forest.{IsForest}
use Rattle.shape_bins.specs.Nodes.{position_at}
use Rattle.shape_bins.specs.Places.{AllBetween, IsListedBetween}
use Rattle.net_extractor.specs.declared.run.RunShape.{RunShape}
use Rattle.net_extractor.specs.declared.walk.Search.{Search}
use Rattle.net_extractor.specs.RunPairs.{IsContactPairOf}
use Rattle.net_extractor.specs.Sets.{IsFalling, AreTogether, JoinsSets}

-- what stands between the positions is of one set
abbrev pub AreAllTogether : List ℕ → List ℕ → ℕ → ℕ → Type 0
AreAllTogether places above first end = (a b : ℕ) → IsListedBetween places first end a → IsListedBetween places first end b → AreTogether above a b

-- each of these places is together with the top
abbrev pub AreWith : List ℕ → ℕ → List ℕ → ℕ → ℕ → Type 0
AreWith places top above first end = AllBetween (λ place. AreTogether above place top) places first end

-- the shapes at and below the node at the index are of one set
abbrev pub IsNodeOneSet : Forest → List ℕ → ℕ → Type 0
IsNodeOneSet forest above at = (node : Node) → slice_get forest.nodes.now at ≡ Some node → AreAllTogether forest.places.now above node.first node.end

-- so it is unless the node is a leaf
abbrev pub IsInnerOneSet : Forest → List ℕ → ℕ → Type 0
IsInnerOneSet forest above at = (node : Node) → slice_get forest.nodes.now at ≡ Some node → (node.size ≡ 1 → ⊥) → AreAllTogether forest.places.now above node.first node.end

abbrev pub IsInnerWith : Forest → ℕ → List ℕ → ℕ → Type 0
IsInnerWith forest top above at = (node : Node) → slice_get forest.nodes.now at ≡ Some node → (node.size ≡ 1 → ⊥) → AreWith forest.places.now top above node.first node.end

-- a mark for each node, which only those have whose shapes are of one set
pub record AreNodeMarks (forest : Forest) (above : List ℕ) (marks : List Bool) : Type 0 where
  pub sized : length marks ≡ length forest.nodes.now
  pub each : (at : ℕ) → slice_index_or marks at false ≡ true → IsNodeOneSet forest above at

-- trees over shapes, sets of these, and marks
pub record AreMarkedSets (all : Forest) (above : List ℕ) (marks : List Bool) : Type 0 where
  pub forest : IsForest all
  pub sized : length above ≡ length all.shapes.now
  pub falls : IsFalling above
  pub marked : AreNodeMarks all above marks

-- the first of the node's places is together with the top
abbrev pub IsFirstWith : Forest → Node → List ℕ → ℕ → Type 0
IsFirstWith forest node above top = (place : ℕ) → slice_get forest.places.now node.first ≡ Some place → AreTogether above place top

-- the places of a run's shapes are
abbrev pub AreRunWith : List RunShape → ℕ → List ℕ → Type 0
AreRunWith run top above = (own : RunShape) → Contains run own → AreTogether above own.place top

-- and they are with the first of the node's places
abbrev pub IsRunWithFirst : Forest → Node → List RunShape → List ℕ → Type 0
IsRunWithFirst forest node run above = (own : RunShape) (place : ℕ) → Contains run own → slice_get forest.places.now node.first ≡ Some place → AreTogether above own.place place

-- they are with all places of the node at the index
abbrev pub IsRunWithNode : Forest → List RunShape → List ℕ → ℕ → Type 0
IsRunWithNode forest run above at = (node : Node) (own : RunShape) (place : ℕ) → slice_get forest.nodes.now at ≡ Some node → Contains run own → IsListedBetween forest.places.now node.first node.end place → AreTogether above own.place place

-- pairs whose second place stands between the positions
abbrev pub IsPairBetween : (ℕ → ℕ → Type 0) → List ℕ → ℕ → ℕ → ℕ → ℕ → Type 0
IsPairBetween P places first end a b = P a b × IsListedBetween places first end b

-- the pairs that are searched for
abbrev pub IsSearched : Forest → Search → ℕ → ℕ → Type 0
IsSearched forest search a b = IsContactPairOf forest.shapes.now search.own.now search.contact search.layer a b

-- those of them whose second place stands between the positions were joined
abbrev pub JoinsBetween : Forest → Search → ℕ → ℕ → List ℕ → List ℕ → Type 0
JoinsBetween forest search first end old new = JoinsSets (IsPairBetween (IsSearched forest search) forest.places.now first end) old new

-- a step of the walk over the nodes
pub record IsMarkedStep (forest : Forest) (search : Search) (at next : ℕ) (old new : List ℕ) (marks : List Bool) : Type 0 where
  pub further : at < next
  pub within : next ≤ length forest.nodes.now
  pub joins : JoinsBetween forest search (position_at (length forest.shapes.now) forest.nodes.now at) (position_at (length forest.shapes.now) forest.nodes.now next) old new
  pub marked : AreNodeMarks forest new marks

-- the sets of the places of which P holds were joined, and the marks are right after it
pub record JoinsMarked (P : ℕ → ℕ → Type 0) (forest : Forest) (old new : List ℕ) (marks : List Bool) : Type 0 where
  pub joins : JoinsSets P old new
  pub marked : AreNodeMarks forest new marks
