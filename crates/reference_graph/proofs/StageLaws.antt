-- The stages of nodes, before and after one is set.
use Rattle.std.proofs.Common.{◌≡◌, ℕ, List, set, get_or, refl, sym, ◌∙◌, get_or-set_other}
use Rattle.reference_graph.specs.declared.search.Stage.{Stage}
use Rattle.reference_graph.specs.declared.search.Stage.TheVariants.{Unseen, Open, Placed}
use Rattle.reference_graph.specs.Search.{IsPlaced}

-- the search is at the node or below it
abbrev pub IsOpen : List Stage → ℕ → Type 0
IsOpen stages node = get_or stages node Unseen ≡ Open

-- how much work a stage leaves
abbrev pub weight : Stage → ℕ
weight Unseen = 2
weight Open = 1
weight Placed = 0

pub not_both : (stages : List Stage) (node : ℕ) → IsOpen stages node → IsPlaced stages node → ⊥
not_both stages node o placed = let no_way : Open ≡ Placed = sym o ∙ placed in absurd cc

-- a node keeps its stage if it is not the one that is set
pub set_keeps : (stages : List Stage) (node : ℕ) (s : Stage) (k : ℕ) (t : Stage) → (k ≡ node → ⊥) → get_or stages k Unseen ≡ t → get_or (set stages node s) k Unseen ≡ t
set_keeps stages node s k t ne h = get_or-set_other stages node k s Unseen ne ∙ h

pub unseen_from : (s : Stage) → (s ≡ Open → ⊥) → (s ≡ Placed → ⊥) → s ≡ Unseen
unseen_from Unseen o p = refl
unseen_from Open o p = absurd (o refl)
unseen_from Placed o p = absurd (p refl)
