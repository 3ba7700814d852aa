-- The way of a search from the node that it is at back to its start.
use Rattle.std.proofs.Common.{◌≡◌, ◌⊎◌, inl, inr, ℕ, List, [], ◌∷◌, get_or, refl, sym, subst}
use Rattle.reference_graph.specs.declared.search.Stage.{Stage}
use Rattle.reference_graph.specs.declared.search.Visit.{Visit}
use Rattle.reference_graph.specs.Reaches.{RefersTo, Reaches}
use Rattle.reference_graph.specs.Search.{IsPlaced, ArePlaced}
use Rattle.reference_graph.proofs.PathLaws.{reaches_on, reaches_start}
use Rattle.reference_graph.proofs.StageLaws.{IsOpen}

-- the node is that of a visit of the trail
abbrev pub IsOnTrail : List Visit → ℕ → Type 0
IsOnTrail [] node = ⊥
IsOnTrail (v ∷ vs) node = (node ≡ v.node) ⊎ IsOnTrail vs node

-- the visited node is open, refers to the node above it, and its references up to the visit's place are placed
pub record IsBelow (graph : List (List ℕ)) (stages : List Stage) (v : Visit) (above : ℕ) : Type 0 where
  pub open' : IsOpen stages v.node
  pub refers : RefersTo graph v.node above
  pub placed : ArePlaced stages (get_or graph v.node []) v.place

-- from the uppermost visit down, each is below the one before it, and no node is visited twice
abbrev pub IsTrail : List (List ℕ) → List Stage → ℕ → List Visit → Type 0
IsTrail graph stages above [] = Unit {0}
IsTrail graph stages above (v ∷ vs) = IsBelow graph stages v above × (IsOnTrail vs v.node → ⊥) × IsTrail graph stages v.node vs

-- the node at which the trail begins
abbrev pub bottom : ℕ → List Visit → ℕ
bottom above [] = above
bottom above (v ∷ vs) = bottom v.node vs

pub trail_open : (graph : List (List ℕ)) (stages : List Stage) (above : ℕ) (vs : List Visit) (node : ℕ) → IsTrail graph stages above vs → IsOnTrail vs node → IsOpen stages node
trail_open graph stages above [] node t on = absurd on
trail_open graph stages above (v ∷ vs) node t (inl e) = subst (IsOpen stages) (sym e) t.0.open'
trail_open graph stages above (v ∷ vs) node t (inr on) = trail_open graph stages v.node vs node t.2 on

-- each node on the trail reaches the node above the trail
pub trail_reaches : (graph : List (List ℕ)) (stages : List Stage) (above : ℕ) (vs : List Visit) (node : ℕ) → IsTrail graph stages above vs → IsOnTrail vs node → Reaches graph node above
trail_reaches graph stages above [] node t on = absurd on
trail_reaches graph stages above (v ∷ vs) node t (inl e) = reaches_on graph node v.node above (reaches_start graph node v.node (sym e)) t.0.refers
trail_reaches graph stages above (v ∷ vs) node t (inr on) = reaches_on graph node v.node above (trail_reaches graph stages v.node vs node t.2 on) t.0.refers

pub bottom_reaches : (graph : List (List ℕ)) (stages : List Stage) (above : ℕ) (vs : List Visit) → IsTrail graph stages above vs → Reaches graph (bottom above vs) above
bottom_reaches graph stages above [] t = reaches_start graph above above refl
bottom_reaches graph stages above (v ∷ vs) t = reaches_on graph (bottom v.node vs) v.node above (bottom_reaches graph stages v.node vs t.2) t.0.refers

-- a trail stays one where its nodes stay open and placed nodes stay placed
pub trail_kept : (graph : List (List ℕ)) (stages stages' : List Stage) (above : ℕ) (vs : List Visit) → ((k : ℕ) → IsOnTrail vs k → IsOpen stages k → IsOpen stages' k) → ((k : ℕ) → IsPlaced stages k → IsPlaced stages' k)
    → IsTrail graph stages above vs → IsTrail graph stages' above vs
trail_kept graph stages stages' above [] opens places t = tt
trail_kept graph stages stages' above (v ∷ vs) opens places t = (
  record {
    open' = opens v.node (inl refl) t.0.open';
    refers = t.0.refers;
    placed = λ k before within. places (get_or (get_or graph v.node []) k 0) (t.0.placed k before within);
  },
  t.1,
  trail_kept graph stages stages' v.node vs (λ k on. opens k (inr on)) places t.2,
)
