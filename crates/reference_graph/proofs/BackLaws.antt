-- A search for cycles goes back: the node that it has left still waits, or it is settled with all that wait after it.
use Rattle.std.proofs.Common.{◌≡◌, inl, inr, ℕ, ◌<◌, ◌≤◌, min, List, [], ◌∷◌, length, get_or, take, refl, sym, ap, subst, ◌∙◌, arith, length-take-le}
use Rattle.std.proofs.lemmas.List.{get_or-take}
use Rattle.std.proofs.lemmas.Bool.{cases_lt}
use Rattle.reference_graph.specs.declared.cycle.Standing.{Standing}
use Rattle.reference_graph.specs.declared.cycle.Standing.TheVariants.{Unseen, Waiting, Settled}
use Rattle.reference_graph.specs.declared.cycle.Entry.{Entry}
use Rattle.reference_graph.specs.Reaches.{Reaches, IsMarked, CyclesMarked}
use Rattle.reference_graph.specs.Waits.{IsWaiting, IsSettled, AreSettled}
use Rattle.reference_graph.proofs.PathLaws.{reaches_on, reaches_start, reaches_over}
use Rattle.reference_graph.proofs.EntryLaws.{State, node_at, IsAbove, IsLeft, IsEntry, IsPast, IsState, IsSearch, IsKept, left_less, kept_trail, reached_settled}
use Rattle.reference_graph.proofs.LeaveLaws.{IsLeaving}

-- the entry below, with what is known of the node above it
abbrev pub lowered : Entry → ℕ → Entry
lowered b least = record { node = b.node; place = b.place; next = b.next; least = least }

-- the nodes that wait from the entry's on are left
left_from : (graph : List (List ℕ)) (start : ℕ) (s : State) (e : Entry) (es : List Entry) (low place : ℕ) → IsLeaving graph start s e es low → e.place ≤ place → place < length s.waiting → IsLeft graph s low (node_at s place)
left_from graph start s e es low place v ge lt = elim (cases_lt e.place place) [
  | inl above ↦ left_less graph s e.least low (node_at s place) v.less (v.search'.here.left place above lt)
  | inr last ↦
      let same : e.place ≡ place = omega (arith, ge, last) in
      subst (λ (n : ℕ). IsLeft graph s low (node_at s n)) same (subst (IsLeft graph s low) (sym v.search'.here.is) v.left)
]

-- it leads to a node that waits below, so that it still waits
pub search_back : (graph : List (List ℕ)) (start : ℕ) (s : State) (e b : Entry) (es : List Entry) (low least : ℕ) → IsLeaving graph start s e (b ∷ es) low → low < e.place → least ≡ min b.least low → IsSearch graph start s (lowered b least) es
search_back graph start s e b es low least v lt is =
    let i = v.search' in
    let t = i.trail in
    let up : Reaches graph b.node e.node = reaches_on graph b.node b.node e.node (reaches_start graph b.node b.node refl) t.1 in
    let down : Reaches graph e.node b.node = reaches_over graph e.node (node_at s low) b.node v.leads (t.0.all low lt) in
    record {
      state = i.state;
      here = record {
        before = omega (arith, t.0.before, i.here.before);
        is = t.0.is;
        low = omega (arith, t.0.low, is);
        reached = t.0.reached;
        leads = elim (cases_lt b.least low) [
          | inl lower ↦ let same : b.least ≡ least = omega (arith, is, lower) in subst (λ (n : ℕ). Reaches graph b.node (node_at s n)) same t.0.leads
          | inr higher ↦ let same : low ≡ least = omega (arith, is, higher) in subst (λ (n : ℕ). Reaches graph b.node (node_at s n)) same (reaches_over graph b.node e.node (node_at s low) up v.leads)
        ];
        seen = t.0.seen;
        left = λ place above below. elim (cases_lt place e.place) [
          | inl old ↦ left_less graph s b.least least (node_at s place) (omega (arith, is)) (t.0.left place above old)
          | inr new ↦ left_less graph s low least (node_at s place) (omega (arith, is)) (left_from graph start s e (b ∷ es) low place v new below)
        ];
        all = λ place below. elim (cases_lt place e.place) [
          | inl old ↦ t.0.all place old
          | inr new ↦ reaches_over graph (node_at s place) e.node b.node (i.here.all place below) down
        ];
      };
      trail = t.2;
    }

-- those that wait from the place on are settled
pub record IsCut (s s' : State) (place : ℕ) : Type 0 where
  pub sized : length s'.standings ≡ length s.standings
  pub settled : AreSettled s.waiting place (length s.waiting) s.standings s'.standings
  pub waiting : s'.waiting ≡ take place s.waiting
  pub marks : s'.marks ≡ s.marks

-- the same of the lists as they were read
pub cut_read : (s s' : State) (place : ℕ) (waiting : List ℕ) (before after : List Standing) → waiting ≡ s.waiting → before ≡ s.standings → AreSettled waiting place (length waiting) before after → length after ≡ length before
    → s'.standings ≡ after → s'.waiting ≡ take place s.waiting → s'.marks ≡ s.marks → IsCut s s' place
cut_read s s' place waiting before after w b a sized now kept marks = record {
  sized = ap length now ∙ sized ∙ ap length b;
  settled =
      subst (λ (xs : List Standing). AreSettled s.waiting place (length s.waiting) s.standings xs) (sym now)
      (subst (λ (xs : List Standing). AreSettled s.waiting place (length s.waiting) xs after) b (subst (λ (xs : List ℕ). AreSettled xs place (length xs) before after) w a));
  waiting = kept;
  marks = marks;
}

cut_at : (s s' : State) (place k : ℕ) → IsCut s s' place → k < place → node_at s' k ≡ node_at s k
cut_at s s' place k c lt = ap (λ (xs : List ℕ). get_or xs k 0) c.waiting ∙ get_or-take place s.waiting k 0 lt

cut_settled : (s s' : State) (place node : ℕ) → IsCut s s' place → IsSettled s.standings node → IsSettled s'.standings node
cut_settled s s' place node c h = elim (c.settled.others node) [ inl listed ↦ c.settled.settled node listed | inr same ↦ same ∙ h ]

-- what waits from the place on, or is settled, is settled
cut_above : (graph : List (List ℕ)) (start : ℕ) (s s' : State) (place node : ℕ) → IsState graph start s → IsCut s s' place → IsAbove s.standings place node → IsSettled s'.standings node
cut_above graph start s s' place node i c (inl w) = let at = i.waits node w.place w.waits in c.settled.settled node (record { at = w.place; from = w.from; before = at.0; is = at.1 })
cut_above graph start s s' place node i c (inr h) = cut_settled s s' place node c h

cut_kept : (s s' : State) (place : ℕ) → IsCut s s' place → IsKept s s' place
cut_kept s s' place c = record {
  same = λ k lt. cut_at s s' place k c lt;
  seen = λ node seen h. elim (c.settled.others node) [
    | inl listed ↦ let no_way : Settled ≡ Unseen = sym (c.settled.settled node listed) ∙ h in absurd cc
    | inr same ↦ seen (sym same ∙ h)
  ];
  above = λ least node h. elim (c.settled.others node) [
    | inl listed ↦ inr (c.settled.settled node listed)
    | inr same ↦ elim h [ inl w ↦ inl (record { place = w.place; waits = same ∙ w.waits; from = w.from }) | inr old ↦ inr (same ∙ old) ]
  ];
  marked = λ node m. subst (λ xs. IsMarked xs node) (sym c.marks) m;
}

cut_waits : (graph : List (List ℕ)) (start : ℕ) (s s' : State) (place node at : ℕ) → IsState graph start s → IsCut s s' place → IsWaiting s'.standings node at → (at < place) × IsWaiting s.standings node at
cut_waits graph start s s' place node at i c h = elim (c.settled.others node) [
  | inl listed ↦ let no_way : Settled ≡ Waiting at = sym (c.settled.settled node listed) ∙ h in absurd cc
  | inr same ↦
      let old : IsWaiting s.standings node at = sym same ∙ h in
      elim (cases_lt at place) [
        | inl lt ↦ (lt, old)
        | inr ge ↦
            let w = i.waits node at old in
            let no_way : Settled ≡ Waiting at = sym (c.settled.settled node (record { at = at; from = ge; before = w.0; is = w.1 })) ∙ h in
            absurd cc
      ]
]

cut_placed : (graph : List (List ℕ)) (start : ℕ) (s s' : State) (place at : ℕ) → IsState graph start s → IsCut s s' place → place ≤ length s.waiting → at < place → IsWaiting s'.standings (node_at s at) at
cut_placed graph start s s' place at i c le lt =
    let old : IsWaiting s.standings (node_at s at) at = i.placed at (omega arith) in
    elim (c.settled.others (node_at s at)) [
      | inl listed ↦
          let there : IsWaiting s.standings (node_at s at) listed.at = subst (λ (n : ℕ). IsWaiting s.standings n listed.at) listed.is (i.placed listed.at listed.before) in
          let both : Waiting listed.at ≡ Waiting at = sym there ∙ old in
          let same : listed.at ≡ at = cc in
          absurd (omega (arith, same, listed.from, lt))
      | inr same ↦ same ∙ old
    ]

cut_past : (graph : List (List ℕ)) (start : ℕ) (s s' : State) (e : Entry) (es : List Entry) (node : ℕ) → IsLeaving graph start s e es e.place → IsCut s s' e.place → IsSettled s'.standings node → IsPast graph s' node
cut_past graph start s s' e es node v c h = elim (c.settled.others node) [
  | inl listed ↦
      let l : IsLeft graph s e.place node = subst (IsLeft graph s e.place) listed.is (left_from graph start s e es e.place listed.at v listed.from listed.before) in
      record {
        closed = λ to refers. cut_above graph start s s' e.place to v.search'.state c (l.above to refers);
        marked = λ itself. subst (λ xs. IsMarked xs node) (sym c.marks) (l.marked itself);
      }
  | inr same ↦
      let p = v.search'.state.past node (sym same ∙ h) in
      record {
        closed = λ to refers. cut_settled s s' e.place to c (p.closed to refers);
        marked = λ itself. subst (λ xs. IsMarked xs node) (sym c.marks) (p.marked itself);
      }
]

cut_state : (graph : List (List ℕ)) (start : ℕ) (s s' : State) (e : Entry) (es : List Entry) → IsLeaving graph start s e es e.place → IsCut s s' e.place → IsState graph start s'
cut_state graph start s s' e es v c =
    let i = v.search'.state in
    let le : e.place ≤ length s.waiting = let lt = v.search'.here.before in omega arith in
    let sized : length s'.waiting ≡ e.place = ap length c.waiting ∙ length-take-le e.place s.waiting le in
    record {
      sized = c.sized ∙ i.sized;
      marks_sized = ap length c.marks ∙ i.marks_sized;
      waits = λ node place h.
          let w = cut_waits graph start s s' e.place node place i c h in
          (omega (arith, sized, w.0), cut_at s s' e.place place c w.0 ∙ (i.waits node place w.1).1);
      placed = λ place lt.
          let below : place < e.place = omega (arith, sized, lt) in
          subst (λ (n : ℕ). IsWaiting s'.standings n place) (sym (cut_at s s' e.place place c below)) (cut_placed graph start s s' e.place place i c le below);
      past = λ node h. cut_past graph start s s' e es node v c h;
      sound = λ node m. i.sound node (subst (λ xs. IsMarked xs node) c.marks m);
    }

-- it leads to none that waits below, so that it is settled
pub search_settles : (graph : List (List ℕ)) (start : ℕ) (s s' : State) (e b : Entry) (es : List Entry) (low least : ℕ) → IsLeaving graph start s e (b ∷ es) low → low ≡ e.place → IsCut s s' e.place → least ≡ min b.least low
    → IsSearch graph start s' (lowered b least) es
search_settles graph start s s' e b es low least l all c is =
    let v = subst (IsLeaving graph start s e (b ∷ es)) all l in
    let t = v.search'.trail in
    let le : e.place ≤ length s.waiting = let lt = v.search'.here.before in omega arith in
    let sized : length s'.waiting ≡ e.place = ap length c.waiting ∙ length-take-le e.place s.waiting le in
    let same : b.least ≡ least = omega (arith, is, all, t.0.low, t.0.before) in
    let kept = kept_trail graph start s s' e.place e.node (b ∷ es) (cut_kept s s' e.place c) t in
    record {
      state = cut_state graph start s s' e (b ∷ es) v c;
      here = subst (IsEntry graph start s' (lowered b least)) (sym sized) (subst (λ (n : ℕ). IsEntry graph start s' (lowered b n) e.place) same kept.0);
      trail = kept.2;
    }

-- nothing waits below: the marks are all there
pub search_ends : (graph : List (List ℕ)) (start : ℕ) (s s' : State) (e : Entry) (low : ℕ) → IsLeaving graph start s e [] low → low ≡ e.place → IsCut s s' e.place → CyclesMarked graph start s.marks
search_ends graph start s s' e low l all c =
    let v = subst (IsLeaving graph start s e []) all l in
    let i = v.search' in
    let state = cut_state graph start s s' e [] v c in
    let settled : IsSettled s'.standings start = c.settled.settled start (record { at = e.place; from = omega arith; before = i.here.before; is = i.here.is ∙ i.trail.1 }) in
    record {
      sized = i.state.marks_sized;
      exact = λ node. (
        i.state.sound node,
        λ r. subst (λ xs. IsMarked xs node) c.marks ((state.past node (reached_settled graph start s' start node r.0.path state settled r.0.leads)).marked r.1),
      );
    }
