-- A search for cycles begins at its start, and goes on to a node that it has not seen.
use Rattle.std.proofs.Common.{◌≡◌, inl, inr, ℕ, ◌+◌, ◌<◌, Bool, false, List, [], ◌∷◌, ◌++◌, length, set, get_or, replicate, refl, sym, ap, subst, ◌∙◌, arith, get_or-set_same, length-set}
use Rattle.std.specs.Prelude.{sum_by}
use Rattle.std.proofs.lemmas.List.{get_or_append_left, get_or_push, length_push, length-replicate}
use Rattle.std.proofs.lemmas.Bool.{cases_lt}
use Rattle.reference_graph.specs.declared.cycle.Standing.{Standing}
use Rattle.reference_graph.specs.declared.cycle.Standing.TheVariants.{Unseen, Waiting, Settled}
use Rattle.reference_graph.specs.declared.cycle.Entry.{Entry}
use Rattle.reference_graph.specs.Reaches.{RefersTo, Reaches, IsMarked}
use Rattle.reference_graph.specs.Waits.{IsUnseen, IsWaiting, IsSettled, AreSeen}
use Rattle.reference_graph.proofs.PathLaws.{reaches_on, reaches_start}
use Rattle.reference_graph.proofs.ReachLaws.{no_mark}
use Rattle.reference_graph.proofs.SetLaws.{at_set, at_all}
use Rattle.reference_graph.proofs.WaitLaws.{weight, enter_keeps, enter_lighter}
use Rattle.reference_graph.proofs.EntryLaws.{State, node_at, IsEntry, IsState, IsSearch, IsKept, kept_less, kept_entry, kept_trail}

-- the node waits last
abbrev pub entered : State → ℕ → State
entered s to = record { standings = set s.standings to (Waiting (length s.waiting)); waiting = s.waiting ++ to ∷ []; marks = s.marks }

at_old : (s : State) (to place : ℕ) → place < length s.waiting → node_at (entered s to) place ≡ node_at s place
at_old s to place lt = get_or_append_left s.waiting (to ∷ []) 0 place lt

at_last : (s : State) (to place : ℕ) → length s.waiting ≡ place → node_at (entered s to) place ≡ to
at_last s to place e = get_or_push s.waiting to 0 place e

settled_stays : (s : State) (to node : ℕ) → IsUnseen s.standings to → IsSettled s.standings node → IsSettled (entered s to).standings node
settled_stays s to node unseen h = enter_keeps s.standings to (Waiting (length s.waiting)) node Settled unseen (λ e. cc) h

waiting_stays : (s : State) (to node place : ℕ) → IsUnseen s.standings to → IsWaiting s.standings node place → IsWaiting (entered s to).standings node place
waiting_stays s to node place unseen h = enter_keeps s.standings to (Waiting (length s.waiting)) node (Waiting place) unseen (λ e. cc) h

enter_kept : (s : State) (to : ℕ) → to < length s.standings → IsUnseen s.standings to → IsKept s (entered s to) (length s.waiting)
enter_kept s to within unseen = record {
  same = λ place lt. at_old s to place lt;
  seen = λ node seen h. elim (at_set s.standings to (Waiting (length s.waiting)) node Unseen Unseen within h) [
    | inl b ↦ let no_way : Waiting (length s.waiting) ≡ Unseen = b.1 in absurd cc
    | inr old ↦ seen old
  ];
  above = λ least node h. elim h [
    | inl w ↦ inl (record { place = w.place; waits = waiting_stays s to node w.place unseen w.waits; from = w.from })
    | inr settled ↦ inr (settled_stays s to node unseen settled)
  ];
  marked = λ node m. m;
}

enter_state : (graph : List (List ℕ)) (start : ℕ) (s : State) (to : ℕ) → IsState graph start s → to < length s.standings → IsUnseen s.standings to → IsState graph start (entered s to)
enter_state graph start s to i within unseen =
    let longer = length_push s.waiting to in
    record {
      sized = length-set s.standings to (Waiting (length s.waiting)) ∙ i.sized;
      marks_sized = i.marks_sized;
      waits = λ node place h. elim (at_set s.standings to (Waiting (length s.waiting)) node (Waiting place) Unseen within h) [
        | inl b ↦
            let new : Waiting (length s.waiting) ≡ Waiting place = b.1 in
            let e : length s.waiting ≡ place = cc in
            (omega (arith, longer, e), at_last s to place e ∙ sym b.0)
        | inr old ↦ let w = i.waits node place old in (omega (arith, longer, w.0), at_old s to place w.0 ∙ w.1)
      ];
      placed = λ place lt. elim (cases_lt place (length s.waiting)) [
        | inl old ↦ subst (λ (n : ℕ). IsWaiting (entered s to).standings n place) (sym (at_old s to place old)) (waiting_stays s to (node_at s place) place unseen (i.placed place old))
        | inr last ↦
            let e : length s.waiting ≡ place = omega (arith, longer, lt, last) in
            subst (λ (n : ℕ). IsWaiting (entered s to).standings n place) (sym (at_last s to place e))
            (subst (IsWaiting (entered s to).standings to) e (get_or-set_same s.standings to (Waiting (length s.waiting)) Unseen within))
      ];
      past = λ node h. elim (at_set s.standings to (Waiting (length s.waiting)) node Settled Unseen within h) [
        | inl b ↦ let no_way : Waiting (length s.waiting) ≡ Settled = b.1 in absurd cc
        | inr old ↦ let p = i.past node old in record { closed = λ k refers. settled_stays s to k unseen (p.closed k refers); marked = p.marked }
      ];
      sound = i.sound;
    }

enter_entry : (graph : List (List ℕ)) (start : ℕ) (s : State) (e : Entry) (to : ℕ) → IsEntry graph start s e (length s.waiting) → RefersTo graph e.node to
    → IsEntry graph start (entered s to) (record { node = to; place = length s.waiting; next = 0; least = length s.waiting }) (length (s.waiting ++ to ∷ []))
enter_entry graph start s e to i refers =
    let longer = length_push s.waiting to in
    let here = at_last s to (length s.waiting) refl in
    record {
      before = omega (arith, longer);
      is = here;
      low = omega arith;
      reached = reaches_on graph start e.node to i.reached refers;
      leads = reaches_start graph to (node_at (entered s to) (length s.waiting)) here;
      seen = λ earlier lt within. absurd (omega arith);
      left = λ place lt below. absurd (omega (arith, longer));
      all = λ place below. elim (cases_lt place (length s.waiting)) [
        | inl old ↦ subst (λ (n : ℕ). Reaches graph n to) (sym (at_old s to place old)) (reaches_on graph (node_at s place) e.node to (i.all place old) refers)
        | inr last ↦ reaches_start graph (node_at (entered s to) place) to (sym (at_last s to place (omega (arith, longer, below, last))))
      ];
    }

next_entry : (graph : List (List ℕ)) (start : ℕ) (s : State) (e : Entry) (next end : ℕ) → IsEntry graph start s e end → AreSeen s.standings (get_or graph e.node []) next
    → IsEntry graph start s (record { node = e.node; place = e.place; next = next; least = e.least }) end
next_entry graph start s e next end i seen = record { before = i.before; is = i.is; low = i.low; reached = i.reached; leads = i.leads; seen = seen; left = i.left; all = i.all }

pub search_enters : (graph : List (List ℕ)) (start : ℕ) (s : State) (e : Entry) (es : List Entry) (next to : ℕ)
    → IsSearch graph start s e es → to < length graph → IsUnseen s.standings to → RefersTo graph e.node to → AreSeen s.standings (get_or graph e.node []) next
    → IsSearch graph start (entered s to) (record { node = to; place = length s.waiting; next = 0; least = length s.waiting }) (record { node = e.node; place = e.place; next = next; least = e.least } ∷ es)
search_enters graph start s e es next to i inside unseen refers seen =
    let within : to < length s.standings = omega (arith, i.state.sized) in
    let kept = enter_kept s to within unseen in
    let lower : e.place < length s.waiting = i.here.before in
    record {
      state = enter_state graph start s to i.state within unseen;
      here = enter_entry graph start s e to i.here refers;
      trail = (
        kept_entry graph start s (entered s to) (record { node = e.node; place = e.place; next = next; least = e.least }) (length s.waiting) kept (next_entry graph start s e next (length s.waiting) i.here seen),
        refers,
        kept_trail graph start s (entered s to) e.place e.node es (kept_less s (entered s to) (length s.waiting) e.place (omega arith) kept) i.trail,
      );
    }

-- at first only the start waits
pub search_begins : (graph : List (List ℕ)) (start : ℕ) (standings : List Standing) (marks : List Bool) → start < length graph → standings ≡ replicate (length graph) Unseen → marks ≡ replicate (length graph) false
    → IsSearch graph start (record { standings = set standings start (Waiting 0); waiting = start ∷ []; marks = marks }) (record { node = start; place = 0; next = 0; least = 0 }) []
search_begins graph start standings marks inside e m =
    let sized : length standings ≡ length graph = ap length e ∙ length-replicate (length graph) Unseen in
    let within : start < length standings = omega arith in
    let unseen : (k : ℕ) (s : Standing) → get_or standings k Unseen ≡ s → s ≡ Unseen = λ k s h. at_all (length graph) k Unseen s (subst (λ (xs : List Standing). get_or xs k Unseen ≡ s) e h) in
    let unmarked : (k : ℕ) → IsMarked marks k → ⊥ = λ k h. no_mark (length graph) k (subst (λ (xs : List Bool). IsMarked xs k) m h) in
    record {
      state = record {
        sized = length-set standings start (Waiting 0) ∙ sized;
        marks_sized = ap length m ∙ length-replicate (length graph) false;
        waits = λ node place h. elim (at_set standings start (Waiting 0) node (Waiting place) Unseen within h) [
          | inl b ↦
              let new : Waiting 0 ≡ Waiting place = b.1 in
              let same : 0 ≡ place = cc in
              (omega arith, subst (λ (n : ℕ). get_or (start ∷ []) n 0 ≡ node) same (sym b.0))
          | inr old ↦ let no_way : Waiting place ≡ Unseen = unseen node (Waiting place) old in absurd cc
        ];
        placed = λ place lt.
            let same : 0 ≡ place = omega (arith, lt) in
            subst (λ (n : ℕ). IsWaiting (set standings start (Waiting 0)) (get_or (start ∷ []) n 0) n) same (get_or-set_same standings start (Waiting 0) Unseen within);
        past = λ node h. elim (at_set standings start (Waiting 0) node Settled Unseen within h) [
          | inl b ↦ let no_way : Waiting 0 ≡ Settled = b.1 in absurd cc
          | inr old ↦ let no_way : Settled ≡ Unseen = unseen node Settled old in absurd cc
        ];
        sound = λ node h. absurd (unmarked node h);
      };
      here = record {
        before = omega arith;
        is = refl;
        low = omega arith;
        reached = reaches_start graph start start refl;
        leads = reaches_start graph start start refl;
        seen = λ earlier lt in'. absurd (omega arith);
        left = λ place lt below. absurd (omega (arith, lt, below));
        all = λ place below.
            let same : 0 ≡ place = omega (arith, below) in
            subst (λ (n : ℕ). Reaches graph (get_or (start ∷ []) n 0) start) same (reaches_start graph start start refl);
      };
      trail = (refl, refl);
    }

-- an entry more, and less work than before
pub step_lighter : (standings : List Standing) (trail : List Entry) (e : Entry) (to place : ℕ) → to < length standings → IsUnseen standings to
    → sum_by weight (set standings to (Waiting place)) + length (trail ++ e ∷ []) < sum_by weight standings + length trail
step_lighter standings trail e to place lt unseen =
    let h = enter_lighter standings to place lt unseen in
    let longer = length_push trail e in
    omega (arith, h, longer)
