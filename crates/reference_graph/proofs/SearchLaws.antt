-- A search in depth: what is placed, what is open, and how it goes on.
use Rattle.std.proofs.Common.{◌≡◌, ◌≢◌, ◌⊎◌, inl, inr, ℕ, ◌+◌, ◌<◌, List, [], ◌∷◌, ◌++◌, length, set, get_or, replicate, refl, sym, ap, subst, ◌∙◌, arith, get_or-set_same, length-set}
use Rattle.std.specs.Prelude.{Contains, sum_by}
use Rattle.std.proofs.lemmas.List.{get_or_default, get_or_append_left, get_or_push, length_push, length-replicate}
use Rattle.std.proofs.lemmas.List.Sums.{sum_by-set}
use Rattle.std.proofs.lemmas.List.Elements.{Contains-get_or, Contains-push, Contains-push_cases, Contains-append_left, All-push}
use Rattle.std.proofs.lemmas.List.Quantifiers.{all_pairs_push}
use Rattle.std.proofs.lemmas.Bool.{cases_lt}
use Rattle.reference_graph.specs.declared.search.Stage.{Stage}
use Rattle.reference_graph.specs.declared.search.Stage.TheVariants.{Unseen, Open, Placed}
use Rattle.reference_graph.specs.declared.search.Visit.{Visit}
use Rattle.reference_graph.specs.Reaches.{RefersTo, AreWithin, IsPath, Reaches, HasCycle}
use Rattle.reference_graph.specs.BottomUp.{StandsBefore, IsBottomUp, IsOrder}
use Rattle.reference_graph.specs.Search.{IsPlaced, ArePlaced, IsNext}
use Rattle.reference_graph.proofs.PathLaws.{reaches_on, reaches_start, reaches_within, itself_from, all_within}
use Rattle.reference_graph.proofs.OrderLaws.{order_closed}
use Rattle.reference_graph.proofs.SetLaws.{at_set, at_all}
use Rattle.reference_graph.proofs.StageLaws.{IsOpen, weight, unseen_from, not_both, set_keeps}
use Rattle.reference_graph.proofs.TrailLaws.{IsOnTrail, IsTrail, bottom, trail_open, trail_reaches, bottom_reaches, trail_kept}

-- the order has the placed nodes, which are reached, each after all that it refers to
pub record IsPlacing (graph : List (List ℕ)) (start : ℕ) (stages : List Stage) (order : List ℕ) : Type 0 where
  pub listed : (k : ℕ) → IsPlaced stages k → Contains order k
  pub placed : (k : ℕ) → Contains order k → IsPlaced stages k
  pub sound : (k : ℕ) → Contains order k → Reaches graph start k
  pub bottom_up : IsBottomUp graph order

-- the search is at a node of which the references before the place are placed, above a trail from the start, and no other node is open
pub record IsSearch (graph : List (List ℕ)) (start : ℕ) (stages : List Stage) (visit : Visit) (vs : List Visit) (order : List ℕ) : Type 0 where
  pub sized : length stages ≡ length graph
  pub here : IsOpen stages visit.node
  pub done : ArePlaced stages (get_or graph visit.node []) visit.place
  pub apart : IsOnTrail vs visit.node → ⊥
  pub trail : IsTrail graph stages visit.node vs
  pub begins : bottom visit.node vs ≡ start
  pub listed : (k : ℕ) → IsOpen stages k → (k ≡ visit.node) ⊎ IsOnTrail vs k
  pub placing : IsPlacing graph start stages order

-- the node that the search is at is reached
pub search_reaches : (graph : List (List ℕ)) (start : ℕ) (stages : List Stage) (visit : Visit) (vs : List Visit) (order : List ℕ) → IsSearch graph start stages visit vs order → Reaches graph start visit.node
search_reaches graph start stages visit vs order i = subst (λ (n : ℕ). Reaches graph n visit.node) i.begins (bottom_reaches graph stages visit.node vs i.trail)

-- a reference back to an open node closes a cycle
pub search_cycle : (graph : List (List ℕ)) (start : ℕ) (stages : List Stage) (visit : Visit) (vs : List Visit) (order : List ℕ) (to : ℕ)
    → IsSearch graph start stages visit vs order → RefersTo graph visit.node to → IsOpen stages to → HasCycle graph start
search_cycle graph start stages visit vs order to i refers o = record {
  node = to;
  reached = reaches_on graph start visit.node to (search_reaches graph start stages visit vs order i) refers;
  itself = itself_from graph to visit.node (elim (i.listed to o) [
    | inl e ↦ reaches_start graph to visit.node (sym e)
    | inr on ↦ trail_reaches graph stages visit.node vs to i.trail on
  ]) refers;
}

-- the node is one that the search has not seen
pub record IsEntered (graph : List (List ℕ)) (stages : List Stage) (to : ℕ) : Type 0 where
  pub within : to < length stages
  pub not_placed : IsPlaced stages to → ⊥
  pub not_open : IsOpen stages to → ⊥

keeps_open : (graph : List (List ℕ)) (stages : List Stage) (to k : ℕ) → IsEntered graph stages to → IsOpen stages k → IsOpen (set stages to Open) k
keeps_open graph stages to k n h = set_keeps stages to Open k Open (λ e. n.not_open (subst (IsOpen stages) e h)) h

keeps_placed : (graph : List (List ℕ)) (stages : List Stage) (to k : ℕ) → IsEntered graph stages to → IsPlaced stages k → IsPlaced (set stages to Open) k
keeps_placed graph stages to k n h = set_keeps stages to Open k Placed (λ e. n.not_placed (subst (IsPlaced stages) e h)) h

enter_placing : (graph : List (List ℕ)) (start : ℕ) (stages : List Stage) (order : List ℕ) (to : ℕ) → IsEntered graph stages to → IsPlacing graph start stages order → IsPlacing graph start (set stages to Open) order
enter_placing graph start stages order to n p = record {
  listed = λ k h. elim (at_set stages to Open k Placed Unseen n.within h) [
    | inl b ↦ let no_way : Open ≡ Placed = b.1 in absurd cc
    | inr old ↦ p.listed k old
  ];
  placed = λ k h. keeps_placed graph stages to k n (p.placed k h);
  sound = p.sound;
  bottom_up = p.bottom_up;
}

-- the search goes on to a node that it has not seen
pub search_enters : (graph : List (List ℕ)) (start : ℕ) (stages : List Stage) (visit : Visit) (vs : List Visit) (order : List ℕ) (place to : ℕ)
    → IsSearch graph start stages visit vs order → IsEntered graph stages to → RefersTo graph visit.node to → ArePlaced stages (get_or graph visit.node []) place
    → IsSearch graph start (set stages to Open) (record { node = to; place = 0 }) (record { node = visit.node; place = place } ∷ vs) order
search_enters graph start stages visit vs order place to i n refers before = record {
  sized = length-set stages to Open ∙ i.sized;
  here = get_or-set_same stages to Open Unseen n.within;
  done = λ k lt within. absurd (omega arith);
  apart = λ on. elim on [
    | inl e ↦ n.not_open (subst (IsOpen stages) (sym e) i.here)
    | inr below ↦ n.not_open (trail_open graph stages visit.node vs to i.trail below)
  ];
  trail = (
    record {
      open' = keeps_open graph stages to visit.node n i.here;
      refers = refers;
      placed = λ k lt within. keeps_placed graph stages to (get_or (get_or graph visit.node []) k 0) n (before k lt within);
    },
    i.apart,
    trail_kept graph stages (set stages to Open) visit.node vs (λ k on h. keeps_open graph stages to k n h) (λ k h. keeps_placed graph stages to k n h) i.trail,
  );
  begins = i.begins;
  listed = λ k h. elim (at_set stages to Open k Open Unseen n.within h) [
    | inl b ↦ inl b.0
    | inr old ↦ inr (i.listed k old)
  ];
  placing = enter_placing graph start stages order to n i.placing;
}

-- what was placed keeps its place
at_old : (order : List ℕ) (node k : ℕ) → k < length order → get_or (order ++ node ∷ []) k 0 ≡ get_or order k 0
at_old order node k lt = get_or_append_left order (node ∷ []) 0 k lt

push_after : (graph : List (List ℕ)) (order : List ℕ) (node place to : ℕ) → IsBottomUp graph order → ((n : ℕ) → RefersTo graph node n → Contains order n) → place < length order + 1
    → RefersTo graph (get_or (order ++ node ∷ []) place 0) to → StandsBefore (order ++ node ∷ []) place to
push_after graph order node place to b below lt refers =
    elim (cases_lt place (length order)) [
      | inl old ↦
          let s = b.after place to old (subst (λ (n : ℕ). RefersTo graph n to) (at_old order node place old) refers) in
          record { earlier = s.earlier; before = s.before; is = at_old order node s.earlier (omega (arith, s.before)) ∙ s.is }
      | inr last ↦
          let same : length order ≡ place = omega arith in
          let spot = below to (subst (λ (n : ℕ). RefersTo graph n to) (get_or_push order node 0 place same) refers) in
          record { earlier = spot.0; before = omega (arith, spot.1); is = at_old order node spot.0 spot.1 ∙ get_or_default order spot.0 0 to spot.1 ∙ spot.2 }
    ]

-- an order and one node more, all of whose references stand in it
push_bottom_up : (graph : List (List ℕ)) (order : List ℕ) (node : ℕ) → IsBottomUp graph order → node < length graph → (Contains order node → ⊥) → ((to : ℕ) → RefersTo graph node to → Contains order to) → IsBottomUp graph (order ++ node ∷ [])
push_bottom_up graph order node b lt new below = record {
  within = All-push (λ (n : ℕ). n < length graph) order node b.within lt;
  once = all_pairs_push (λ (m n : ℕ). m ≢ n) order node b.once (λ k d inside e. new (k, inside, get_or_default order k node d inside ∙ e));
  after = λ place to inside refers. push_after graph order node place to b below (omega (arith, length_push order node)) refers;
}

-- nothing is left of the references of the node: it is placed
leave_placing : (graph : List (List ℕ)) (start : ℕ) (stages : List Stage) (order : List ℕ) (node : ℕ) → IsPlacing graph start stages order → node < length graph → length stages ≡ length graph
    → IsOpen stages node → Reaches graph start node → ((to : ℕ) → RefersTo graph node to → IsPlaced stages to) → IsPlacing graph start (set stages node Placed) (order ++ node ∷ [])
leave_placing graph start stages order node p lt sized o reached below =
    let within : node < length stages = omega arith in
    record {
      listed = λ k h. elim (at_set stages node Placed k Placed Unseen within h) [
        | inl b ↦ subst (Contains (order ++ node ∷ [])) (sym b.0) (Contains-push order node)
        | inr old ↦ Contains-append_left order (node ∷ []) k (p.listed k old)
      ];
      placed = λ k h. elim (Contains-push_cases order node k h) [
        | inl old ↦ let was = p.placed k old in set_keeps stages node Placed k Placed (λ e. not_both stages k (subst (IsOpen stages) (sym e) o) was) was
        | inr e ↦ subst (IsPlaced (set stages node Placed)) e (get_or-set_same stages node Placed Unseen within)
      ];
      sound = λ k h. elim (Contains-push_cases order node k h) [ inl old ↦ p.sound k old | inr e ↦ subst (Reaches graph start) e reached ];
      bottom_up = push_bottom_up graph order node p.bottom_up lt (λ spot. not_both stages node o (p.placed node spot)) (λ to refers. p.listed to (below to refers));
    }

-- where all references before their end are placed, each is
pub all_placed : (graph : List (List ℕ)) (stages : List Stage) (node : ℕ) → ArePlaced stages (get_or graph node []) (length (get_or graph node [])) → (to : ℕ) → RefersTo graph node to → IsPlaced stages to
all_placed graph stages node done to spot =
    subst (IsPlaced stages) (get_or_default (get_or graph node []) spot.0 0 to spot.1 ∙ spot.2) (done spot.0 spot.1 spot.1)

pub search_places : (graph : List (List ℕ)) (start : ℕ) (stages : List Stage) (visit : Visit) (vs : List Visit) (order : List ℕ) → AreWithin graph → start < length graph
    → IsSearch graph start stages visit vs order → ArePlaced stages (get_or graph visit.node []) (length (get_or graph visit.node [])) → IsPlacing graph start (set stages visit.node Placed) (order ++ visit.node ∷ [])
search_places graph start stages visit vs order within inside i done =
    let reached = search_reaches graph start stages visit vs order i in
    leave_placing graph start stages order visit.node i.placing (reaches_within graph start visit.node within inside reached) i.sized i.here reached (all_placed graph stages visit.node done)

-- the search goes back to the node below
pub search_leaves : (graph : List (List ℕ)) (start : ℕ) (stages : List Stage) (visit below : Visit) (vs : List Visit) (order : List ℕ) → AreWithin graph → start < length graph
    → IsSearch graph start stages visit (below ∷ vs) order → ArePlaced stages (get_or graph visit.node []) (length (get_or graph visit.node []))
    → IsSearch graph start (set stages visit.node Placed) below vs (order ++ visit.node ∷ [])
search_leaves graph start stages visit below vs order within inside i done =
    let reached = search_reaches graph start stages visit (below ∷ vs) order i in
    let small : visit.node < length stages = subst (λ (n : ℕ). visit.node < n) (sym i.sized) (reaches_within graph start visit.node within inside reached) in
    let opens : (k : ℕ) → IsOnTrail (below ∷ vs) k → IsOpen stages k → IsOpen (set stages visit.node Placed) k = λ k on h. set_keeps stages visit.node Placed k Open (λ e. i.apart (subst (IsOnTrail (below ∷ vs)) e on)) h in
    let places : (k : ℕ) → IsPlaced stages k → IsPlaced (set stages visit.node Placed) k = λ k h. set_keeps stages visit.node Placed k Placed (λ e. not_both stages k (subst (IsOpen stages) (sym e) i.here) h) h in
    record {
      sized = length-set stages visit.node Placed ∙ i.sized;
      here = opens below.node (inl refl) i.trail.0.open';
      done = λ k lt in'. places (get_or (get_or graph below.node []) k 0) (i.trail.0.placed k lt in');
      apart = i.trail.1;
      trail = trail_kept graph stages (set stages visit.node Placed) below.node vs (λ k on h. opens k (inr on) h) places i.trail.2;
      begins = i.begins;
      listed = λ k h. elim (at_set stages visit.node Placed k Open Unseen small h) [
        | inl b ↦ let no_way : Placed ≡ Open = b.1 in absurd cc
        | inr old ↦ elim (i.listed k old) [
          | inl e ↦ let was : IsPlaced (set stages visit.node Placed) k = subst (IsPlaced (set stages visit.node Placed)) (sym e) (get_or-set_same stages visit.node Placed Unseen small) in absurd (not_both (set stages visit.node Placed) k h was)
          | inr on ↦ on
        ]
      ];
      placing = search_places graph start stages visit (below ∷ vs) order within inside i done;
    }

reached_placed : (graph : List (List ℕ)) (order : List ℕ) (from to : ℕ) (path : List ℕ) → IsBottomUp graph order → Contains order from → IsPath graph from path to → Contains order to
reached_placed graph order from to [] b spot leads = subst (Contains order) (sym leads) spot
reached_placed graph order from to (next ∷ rest) b spot leads = reached_placed graph order next to rest b (order_closed graph order from next b spot leads.0) leads.1

-- the search is back at the start, and placed it last
pub search_ends : (graph : List (List ℕ)) (start : ℕ) (stages : List Stage) (visit : Visit) (order : List ℕ) → AreWithin graph → start < length graph
    → IsSearch graph start stages visit [] order → ArePlaced stages (get_or graph visit.node []) (length (get_or graph visit.node [])) → IsOrder graph start (order ++ visit.node ∷ [])
search_ends graph start stages visit order within inside i done =
    let p = search_places graph start stages visit [] order within inside i done in
    let spot : Contains (order ++ visit.node ∷ []) start = subst (Contains (order ++ visit.node ∷ [])) i.begins (Contains-push order visit.node) in
    record {
      exact = λ node. (p.sound node, λ r. reached_placed graph (order ++ visit.node ∷ []) start node r.path p.bottom_up spot r.leads);
      bottom_up = p.bottom_up;
    }

pub search_begins : (graph : List (List ℕ)) (start : ℕ) (stages : List Stage) → start < length graph → stages ≡ replicate (length graph) Unseen
    → IsSearch graph start (set stages start Open) (record { node = start; place = 0 }) [] []
search_begins graph start stages inside e =
    let sized : length stages ≡ length graph = ap length e ∙ length-replicate (length graph) Unseen in
    let within : start < length stages = omega arith in
    let unseen : (k : ℕ) (s : Stage) → get_or stages k Unseen ≡ s → s ≡ Unseen = λ k s h. at_all (length graph) k Unseen s (subst (λ (xs : List Stage). get_or xs k Unseen ≡ s) e h) in
    record {
      sized = length-set stages start Open ∙ sized;
      here = get_or-set_same stages start Open Unseen within;
      done = λ k lt in'. absurd (omega arith);
      apart = λ on. on;
      trail = tt;
      begins = refl;
      listed = λ k h. elim (at_set stages start Open k Open Unseen within h) [
        | inl b ↦ inl b.0
        | inr old ↦ let no_way : Open ≡ Unseen = unseen k Open old in absurd cc
      ];
      placing = record {
        listed = λ k h. elim (at_set stages start Open k Placed Unseen within h) [
          | inl b ↦ let no_way : Open ≡ Placed = b.1 in absurd cc
          | inr old ↦ let no_way : Placed ≡ Unseen = unseen k Placed old in absurd cc
        ];
        placed = λ k spot. let lt = spot.1 in absurd (omega arith);
        sound = λ k spot. let lt = spot.1 in absurd (omega arith);
        bottom_up = record {
          within = λ k d lt. absurd (omega arith);
          once = λ j k d before lt. absurd (omega arith);
          after = λ place to lt refers. absurd (omega arith);
        };
      };
    }

-- what entering a node takes off the work that is left, and placing one
pub enter_lighter : (graph : List (List ℕ)) (stages : List Stage) (to : ℕ) → IsEntered graph stages to → sum_by weight (set stages to Open) < sum_by weight stages
enter_lighter graph stages to n =
    let h = sum_by-set weight stages to Open Unseen n.within in
    let h2 = rw (unseen_from (get_or stages to Unseen) n.not_open n.not_placed) at h in
    omega (arith, h2)

-- the node is one that the search has not seen, as the reference at a place names it
pub next_entered : (graph : List (List ℕ)) (node : ℕ) (stages stages' : List Stage) (references : List ℕ) (place : ℕ) → AreWithin graph → references ≡ get_or graph node [] → length stages ≡ length graph → stages' ≡ stages
    → IsNext stages' references place → (IsOpen stages (get_or references place 0) → ⊥) → IsEntered graph stages (get_or references place 0)
next_entered graph node stages stages' references place within e sized same n not_open = record {
  within = let lt = all_within graph node references within e place 0 n.within in omega arith;
  not_placed = λ h. n.unplaced (subst (λ (xs : List Stage). IsPlaced xs (get_or references place 0)) (sym same) h);
  not_open = not_open;
}

pub next_refers : (graph : List (List ℕ)) (node : ℕ) (references : List ℕ) (place : ℕ) → references ≡ get_or graph node [] → place < length references → RefersTo graph node (get_or references place 0)
next_refers graph node references place e lt = subst (λ (xs : List ℕ). Contains xs (get_or references place 0)) e (Contains-get_or references place 0 lt)

-- the same fact of the references as they were read and as they stand in the graph
pub placed_read : (graph : List (List ℕ)) (node : ℕ) (stages stages' : List Stage) (references : List ℕ) (place : ℕ) → references ≡ get_or graph node [] → stages' ≡ stages → ArePlaced stages' references place → ArePlaced stages (get_or graph node []) place
placed_read graph node stages stages' references place e same h =
    subst (λ (xs : List ℕ). ArePlaced stages xs place) e (subst (λ (ss : List Stage). ArePlaced ss references place) same h)

pub all_read : (graph : List (List ℕ)) (node : ℕ) (stages stages' : List Stage) (references : List ℕ) → references ≡ get_or graph node [] → stages' ≡ stages → ArePlaced stages' references (length references)
    → ArePlaced stages (get_or graph node []) (length (get_or graph node []))
all_read graph node stages stages' references e same h =
    subst (λ (xs : List ℕ). ArePlaced stages xs (length xs)) e (subst (λ (ss : List Stage). ArePlaced ss references (length references)) same h)
