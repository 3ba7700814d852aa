-- What a search for cycles knows of the nodes that wait, and of those that it has left.
use Rattle.std.proofs.Common.{◌≡◌, ◌⊎◌, inl, inr, ℕ, ◌<◌, ◌≤◌, Bool, List, [], ◌∷◌, length, get_or, sym, subst, ◌∙◌, arith}
use Rattle.std.specs.Prelude.{All}
use Rattle.std.proofs.lemmas.List.{get_or_default, get_or_past}
use Rattle.std.proofs.lemmas.Bool.{cases_lt}
use Rattle.reference_graph.specs.declared.cycle.Standing.{Standing}
use Rattle.reference_graph.specs.declared.cycle.Standing.TheVariants.{Unseen, Waiting}
use Rattle.reference_graph.specs.declared.cycle.Entry.{Entry}
use Rattle.reference_graph.specs.Reaches.{RefersTo, IsPath, Reaches, ReachesItself, IsMarked}
use Rattle.reference_graph.specs.Waits.{IsUnseen, IsWaiting, IsSettled, AreSeen}

-- the standings of all nodes, those that wait, and the marks so far
pub record State : Type 0 where
  pub standings : List Standing
  pub waiting : List ℕ
  pub marks : List Bool

-- the node that waits at a place
abbrev pub node_at : State → ℕ → ℕ
node_at s place = get_or s.waiting place 0

-- the node waits, at this place or a later one
pub record WaitsFrom (standings : List Standing) (least node : ℕ) : Type 0 where
  pub place : ℕ
  pub waits : IsWaiting standings node place
  pub from : least ≤ place

-- the node is settled, or waits at this place or a later one
abbrev pub IsAbove : List Standing → ℕ → ℕ → Type 0
IsAbove standings least node = WaitsFrom standings least node ⊎ IsSettled standings node

-- each reference of the node is settled or waits at this place or a later one, and the node is marked if it reaches itself
pub record IsLeft (graph : List (List ℕ)) (s : State) (least node : ℕ) : Type 0 where
  pub above : (to : ℕ) → RefersTo graph node to → IsAbove s.standings least to
  pub marked : ReachesItself graph node → IsMarked s.marks node

-- the nodes that wait after the entry's, before the end, are left, and all before the end reach it
pub record IsEntry (graph : List (List ℕ)) (start : ℕ) (s : State) (e : Entry) (end : ℕ) : Type 0 where
  pub before : e.place < end
  pub is : node_at s e.place ≡ e.node
  pub low : e.least ≤ e.place
  pub reached : Reaches graph start e.node
  pub leads : Reaches graph e.node (node_at s e.least)
  pub seen : AreSeen s.standings (get_or graph e.node []) e.next
  pub left : (place : ℕ) → e.place < place → place < end → IsLeft graph s e.least (node_at s place)
  pub all : (place : ℕ) → place < end → Reaches graph (node_at s place) e.node

-- from the uppermost entry down, each refers to the one above it, and the last is the start at place 0
abbrev pub IsTrail : List (List ℕ) → ℕ → State → ℕ → ℕ → List Entry → Type 0
IsTrail graph start s place node [] = (place ≡ 0) × (node ≡ start)
IsTrail graph start s place node (e ∷ es) = IsEntry graph start s e place × RefersTo graph e.node node × IsTrail graph start s e.place e.node es

-- what a settled node refers to is settled, and the node is marked if it reaches itself
pub record IsPast (graph : List (List ℕ)) (s : State) (node : ℕ) : Type 0 where
  pub closed : (to : ℕ) → RefersTo graph node to → IsSettled s.standings to
  pub marked : ReachesItself graph node → IsMarked s.marks node

-- all that holds whatever the entry
pub record IsState (graph : List (List ℕ)) (start : ℕ) (s : State) : Type 0 where
  pub sized : length s.standings ≡ length graph
  pub marks_sized : length s.marks ≡ length graph
  pub waits : (node place : ℕ) → IsWaiting s.standings node place → (place < length s.waiting) × (node_at s place ≡ node)
  pub placed : (place : ℕ) → place < length s.waiting → IsWaiting s.standings (node_at s place) place
  pub past : (node : ℕ) → IsSettled s.standings node → IsPast graph s node
  pub sound : (node : ℕ) → IsMarked s.marks node → Reaches graph start node × ReachesItself graph node

-- the search is at an entry above a trail from the start
pub record IsSearch (graph : List (List ℕ)) (start : ℕ) (s : State) (e : Entry) (es : List Entry) : Type 0 where
  pub state : IsState graph start s
  pub here : IsEntry graph start s e (length s.waiting)
  pub trail : IsTrail graph start s e.place e.node es

-- what lasts as the search goes on
pub record IsKept (s s' : State) (end : ℕ) : Type 0 where
  pub same : (place : ℕ) → place < end → node_at s' place ≡ node_at s place
  pub seen : (node : ℕ) → (IsUnseen s.standings node → ⊥) → IsUnseen s'.standings node → ⊥
  pub above : (least node : ℕ) → IsAbove s.standings least node → IsAbove s'.standings least node
  pub marked : (node : ℕ) → IsMarked s.marks node → IsMarked s'.marks node

pub kept_less : (s s' : State) (end less : ℕ) → less ≤ end → IsKept s s' end → IsKept s s' less
kept_less s s' end less le k = record { same = λ place lt. k.same place (omega arith); seen = k.seen; above = k.above; marked = k.marked }

pub kept_left : (graph : List (List ℕ)) (s s' : State) (end least node : ℕ) → IsKept s s' end → IsLeft graph s least node → IsLeft graph s' least node
kept_left graph s s' end least node k l = record { above = λ to refers. k.above least to (l.above to refers); marked = λ itself. k.marked node (l.marked itself) }

-- a lower bound holds too
pub above_less : (standings : List Standing) (least less node : ℕ) → less ≤ least → IsAbove standings least node → IsAbove standings less node
above_less standings least less node le (inl w) = inl (record { place = w.place; waits = w.waits; from = omega (arith, w.from) })
above_less standings least less node le (inr h) = inr h

pub left_less : (graph : List (List ℕ)) (s : State) (least less node : ℕ) → less ≤ least → IsLeft graph s least node → IsLeft graph s less node
left_less graph s least less node le l = record { above = λ to refers. above_less s.standings least less to le (l.above to refers); marked = l.marked }

pub kept_entry : (graph : List (List ℕ)) (start : ℕ) (s s' : State) (e : Entry) (end : ℕ) → IsKept s s' end → IsEntry graph start s e end → IsEntry graph start s' e end
kept_entry graph start s s' e end k i = record {
  before = i.before;
  is = k.same e.place i.before ∙ i.is;
  low = i.low;
  reached = i.reached;
  leads = subst (Reaches graph e.node) (sym (k.same e.least (omega (arith, i.before, i.low)))) i.leads;
  seen = λ earlier lt within. k.seen (get_or (get_or graph e.node []) earlier 0) (i.seen earlier lt within);
  left = λ place lt below. subst (IsLeft graph s' e.least) (sym (k.same place below)) (kept_left graph s s' end e.least (node_at s place) k (i.left place lt below));
  all = λ place below. subst (λ (n : ℕ). Reaches graph n e.node) (sym (k.same place below)) (i.all place below);
}

pub kept_trail : (graph : List (List ℕ)) (start : ℕ) (s s' : State) (place node : ℕ) (es : List Entry) → IsKept s s' place → IsTrail graph start s place node es → IsTrail graph start s' place node es
kept_trail graph start s s' place node [] k t = t
kept_trail graph start s s' place node (e ∷ es) k t = (
  kept_entry graph start s s' e place k t.0,
  t.1,
  kept_trail graph start s s' e.place e.node es (let lt = t.0.before in kept_less s s' place e.place (omega arith) k) t.2,
)

-- what a settled node reaches is settled
pub reached_settled : (graph : List (List ℕ)) (start : ℕ) (s : State) (from to : ℕ) (path : List ℕ) → IsState graph start s → IsSettled s.standings from → IsPath graph from path to → IsSettled s.standings to
reached_settled graph start s from to [] i h leads = subst (IsSettled s.standings) (sym leads) h
reached_settled graph start s from to (next ∷ rest) i h leads = reached_settled graph start s next to rest i ((i.past from h).closed next leads.0) leads.1

waiting_within : (standings : List Standing) (node place : ℕ) → IsWaiting standings node place → node < length standings
waiting_within standings node place h = elim (cases_lt node (length standings)) [
  | inl lt ↦ lt
  | inr ge ↦ let no_way : Unseen ≡ Waiting place = sym (get_or_past standings node Unseen ge) ∙ h in absurd cc
]

-- what waits is a node of the list
pub all_waiting : (graph : List (List ℕ)) (start : ℕ) (s : State) → IsState graph start s → All (λ node. node < length s.standings) s.waiting
all_waiting graph start s i = λ k d lt.
    subst (λ (n : ℕ). n < length s.standings) (sym (get_or_default s.waiting k d 0 lt)) (waiting_within s.standings (node_at s k) k (i.placed k lt))
