-- A search for cycles leaves a node: what it leads to, whether it reaches itself, and how the search goes back.
use Rattle.std.proofs.Common.{◌≡◌, inl, inr, ℕ, ◌<◌, ◌≤◌, min, Bool, true, false, Option, None, Some, List, [], length, set, get_or, refl, sym, subst, ◌∙◌, arith, get_or-set_same, get_or-set_other, length-set}
use Rattle.std.specs.Prelude.{MatchOption, is_some}
use Rattle.std.specs.Option.{unwrap_or}
use Rattle.std.proofs.lemmas.List.{get_or_default}
use Rattle.std.proofs.lemmas.Bool.{cases_eq, cases_lt}
use Rattle.reference_graph.specs.declared.cycle.Standing.{Standing}
use Rattle.reference_graph.specs.declared.cycle.Standing.TheVariants.{Unseen, Waiting, Settled}
use Rattle.reference_graph.specs.declared.cycle.Entry.{Entry}
use Rattle.reference_graph.specs.Reaches.{RefersTo, AreWithin, Reaches, ReachesItself, IsMarked}
use Rattle.reference_graph.specs.Waits.{IsUnseen, IsWaiting, IsSettled, AreSeen, NoneWaits, IsLeastWaiting}
use Rattle.reference_graph.proofs.PathLaws.{reaches_on, reaches_start, reaches_within}
use Rattle.reference_graph.proofs.WaitLaws.{seen_cases}
use Rattle.reference_graph.proofs.EntryLaws.{State, node_at, IsAbove, IsLeft, IsState, IsSearch, IsKept, kept_less, kept_entry, kept_trail, reached_settled}

-- the entry's node is left, and leads to the least place that is known
pub record IsLeaving (graph : List (List ℕ)) (start : ℕ) (s : State) (e : Entry) (es : List Entry) (low : ℕ) : Type 0 where
  pub search' : IsSearch graph start s e es
  pub less : low ≤ e.least
  pub leads : Reaches graph e.node (node_at s low)
  pub left : IsLeft graph s low e.node

-- all references are seen
all_seen : (graph : List (List ℕ)) (standings : List Standing) (node : ℕ) → AreSeen standings (get_or graph node []) (length (get_or graph node [])) → (to : ℕ) → RefersTo graph node to → IsUnseen standings to → ⊥
all_seen graph standings node seen to spot =
    subst (λ (n : ℕ). IsUnseen standings n → ⊥) (get_or_default (get_or graph node []) spot.0 0 to spot.1 ∙ spot.2) (seen spot.0 spot.1 spot.1)

above_all : (graph : List (List ℕ)) (standings : List Standing) (node low : ℕ) → AreSeen standings (get_or graph node []) (length (get_or graph node []))
    → ((to place : ℕ) → RefersTo graph node to → IsWaiting standings to place → low ≤ place) → (to : ℕ) → RefersTo graph node to → IsAbove standings low to
above_all graph standings node low seen least to refers = elim (seen_cases (get_or standings to Unseen) (all_seen graph standings node seen to refers)) [
  | inl w ↦ inl (record { place = w.place; waits = w.is; from = least to w.place refers w.is })
  | inr settled ↦ inr settled
]

-- a reference that waits leads back to the node
waiting_itself : (graph : List (List ℕ)) (start : ℕ) (s : State) (e : Entry) (es : List Entry) (to place : ℕ) → IsSearch graph start s e es → RefersTo graph e.node to → IsWaiting s.standings to place → ReachesItself graph e.node
waiting_itself graph start s e es to place i refers h =
    let w = i.state.waits to place h in
    let r = subst (λ (n : ℕ). Reaches graph n e.node) w.1 (i.here.all place w.0) in
    record { next = to; rest = r.path; leads = (refers, r.leads) }

-- without one, the node does not reach itself
none_itself : (graph : List (List ℕ)) (start : ℕ) (s : State) (e : Entry) (es : List Entry) → IsSearch graph start s e es → AreSeen s.standings (get_or graph e.node []) (length (get_or graph e.node []))
    → NoneWaits s.standings (get_or graph e.node []) → ReachesItself graph e.node → ⊥
none_itself graph start s e es i seen none itself =
    let here : IsWaiting s.standings e.node e.place = subst (λ (n : ℕ). IsWaiting s.standings n e.place) i.here.is (i.state.placed e.place i.here.before) in
    elim (seen_cases (get_or s.standings itself.next Unseen) (all_seen graph s.standings e.node seen itself.next itself.leads.0)) [
      | inl w ↦ none itself.next w.place itself.leads.0 w.is
      | inr settled ↦
          let past : IsSettled s.standings e.node = reached_settled graph start s itself.next e.node itself.rest i.state settled itself.leads.1 in
          let no_way : Waiting e.place ≡ Settled = sym here ∙ past in
          absurd cc
    ]

-- the node is marked as it is found to be
abbrev pub marked : State → ℕ → Bool → State
marked s node b = record { standings = s.standings; waiting = s.waiting; marks = set s.marks node b }

mark_keeps : (graph : List (List ℕ)) (start : ℕ) (s : State) (node : ℕ) (b : Bool) → IsState graph start s → node < length s.marks → (ReachesItself graph node → b ≡ true) → (k : ℕ) → IsMarked s.marks k → IsMarked (set s.marks node b) k
mark_keeps graph start s node b i lt all k m = elim (cases_eq k node) [
  | inl e ↦
      let yes : b ≡ true = all (subst (ReachesItself graph) e (i.sound k m).1) in
      subst (IsMarked (set s.marks node b)) (sym e) (get_or-set_same s.marks node b false lt ∙ yes)
  | inr ne ↦ get_or-set_other s.marks node k b false ne ∙ m
]

mark_sound : (graph : List (List ℕ)) (start : ℕ) (s : State) (node : ℕ) (b : Bool) → IsState graph start s → node < length s.marks → Reaches graph start node → (b ≡ true → ReachesItself graph node)
    → (k : ℕ) → IsMarked (set s.marks node b) k → Reaches graph start k × ReachesItself graph k
mark_sound graph start s node b i lt reached only k m = elim (cases_eq k node) [
  | inl e ↦
      let yes : b ≡ true = sym (get_or-set_same s.marks node b false lt) ∙ subst (IsMarked (set s.marks node b)) e m in
      subst (λ (n : ℕ). Reaches graph start n × ReachesItself graph n) (sym e) (reached, only yes)
  | inr ne ↦ i.sound k (sym (get_or-set_other s.marks node k b false ne) ∙ m)
]

mark_kept : (graph : List (List ℕ)) (start : ℕ) (s : State) (node end : ℕ) (b : Bool) → IsState graph start s → node < length s.marks → (ReachesItself graph node → b ≡ true) → IsKept s (marked s node b) end
mark_kept graph start s node end b i lt all = record { same = λ place below. refl; seen = λ k h. h; above = λ least k h. h; marked = mark_keeps graph start s node b i lt all }

mark_search : (graph : List (List ℕ)) (start : ℕ) (s : State) (e : Entry) (es : List Entry) (b : Bool) → IsSearch graph start s e es → e.node < length s.marks → (ReachesItself graph e.node → b ≡ true) → (b ≡ true → ReachesItself graph e.node)
    → IsSearch graph start (marked s e.node b) e es
mark_search graph start s e es b i lt all only =
    let kept = mark_kept graph start s e.node (length s.waiting) b i.state lt all in
    let lower : e.place < length s.waiting = i.here.before in
    record {
      state = record {
        sized = i.state.sized;
        marks_sized = length-set s.marks e.node b ∙ i.state.marks_sized;
        waits = i.state.waits;
        placed = i.state.placed;
        past = λ k h. let p = i.state.past k h in record { closed = p.closed; marked = λ itself. kept.marked k (p.marked itself) };
        sound = mark_sound graph start s e.node b i.state lt i.here.reached only;
      };
      here = kept_entry graph start s (marked s e.node b) e (length s.waiting) kept i.here;
      trail = kept_trail graph start s (marked s e.node b) e.place e.node es (kept_less s (marked s e.node b) (length s.waiting) e.place (omega arith) kept) i.trail;
    }

-- all references are seen: the node is marked if one waits, and leads to the least place of those
pub search_leaves : (graph : List (List ℕ)) (start : ℕ) (s : State) (e : Entry) (es : List Entry) (found : Option ℕ) (low : ℕ) → IsSearch graph start s e es → e.node < length s.marks
    → AreSeen s.standings (get_or graph e.node []) (length (get_or graph e.node []))
    → MatchOption found (NoneWaits s.standings (get_or graph e.node [])) (IsLeastWaiting s.standings (get_or graph e.node []))
    → low ≡ min e.least (unwrap_or found e.place) → IsLeaving graph start (marked s e.node (is_some found)) e es low
search_leaves graph start s e es None low i lt seen none is =
    let all : ReachesItself graph e.node → false ≡ true = λ itself. absurd (none_itself graph start s e es i seen none itself) in
    let only : false ≡ true → ReachesItself graph e.node = λ no_way. absurd cc in
    let same : e.least ≡ low = omega (arith, is, i.here.low) in
    record {
      search' = mark_search graph start s e es false i lt all only;
      less = omega (arith, same);
      leads = subst (λ (n : ℕ). Reaches graph e.node (node_at s n)) same i.here.leads;
      left = record {
        above = above_all graph s.standings e.node low seen (λ to place refers h. absurd (none to place refers h));
        marked = λ itself. absurd (none_itself graph start s e es i seen none itself);
      };
    }
search_leaves graph start s e es (Some place) low i lt seen w is =
    let itself : ReachesItself graph e.node = waiting_itself graph start s e es w.node place i w.stands w.waits in
    let back = i.state.waits w.node place w.waits in
    let there : Reaches graph e.node (node_at s place) = reaches_on graph e.node e.node (node_at s place) (reaches_start graph e.node e.node refl) (subst (RefersTo graph e.node) (sym back.1) w.stands) in
    record {
      search' = mark_search graph start s e es true i lt (λ h. refl) (λ h. itself);
      less = omega (arith, is);
      leads = elim (cases_lt e.least place) [
        | inl lower ↦ let same : e.least ≡ low = omega (arith, is, lower) in subst (λ (n : ℕ). Reaches graph e.node (node_at s n)) same i.here.leads
        | inr higher ↦ let same : place ≡ low = omega (arith, is, higher) in subst (λ (n : ℕ). Reaches graph e.node (node_at s n)) same there
      ];
      left = record {
        above = above_all graph s.standings e.node low seen (λ to at refers h. let le = w.least to at refers h in omega (arith, is, le));
        marked = λ h. get_or-set_same s.marks e.node true false lt;
      };
    }

-- the same of the references as they were read
pub leaves_read : (graph : List (List ℕ)) (start : ℕ) (s : State) (e : Entry) (es : List Entry) (references : List ℕ) (before after : List Standing) (found : Option ℕ) (b : Bool) (or low : ℕ)
    → IsSearch graph start s e es → AreWithin graph → start < length graph → references ≡ get_or graph e.node [] → before ≡ s.standings → after ≡ s.standings → AreSeen before references (length references)
    → MatchOption found (NoneWaits after references) (IsLeastWaiting after references) → b ≡ is_some found → or ≡ unwrap_or found e.place → low ≡ min e.least or → IsLeaving graph start (marked s e.node b) e es low
leaves_read graph start s e es references before after found b or low i within inside r was now seen f is or' low' =
    let small : e.node < length s.marks = subst (λ (n : ℕ). e.node < n) (sym i.state.marks_sized) (reaches_within graph start e.node within inside i.here.reached) in
    subst (λ (v : Bool). IsLeaving graph start (marked s e.node v) e es low) (sym is)
    (search_leaves graph start s e es found low i small
    (subst (λ (xs : List ℕ). AreSeen s.standings xs (length xs)) r (subst (λ (ss : List Standing). AreSeen ss references (length references)) was seen))
    (subst (λ (xs : List ℕ). MatchOption found (NoneWaits s.standings xs) (IsLeastWaiting s.standings xs)) r (subst (λ (ss : List Standing). MatchOption found (NoneWaits ss references) (IsLeastWaiting ss references)) now f))
    (subst (λ (n : ℕ). low ≡ min e.least n) or' low'))
