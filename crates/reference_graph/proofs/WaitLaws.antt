-- The standings of nodes, before and after some are set.
use Rattle.std.proofs.Common.{◌≡◌, ◌⊎◌, inl, inr, ℕ, suc, ◌+◌, ◌<◌, ◌≤◌, min, Option, None, Some, List, [], ◌∷◌, ◌++◌, length, set, get_or, take, refl, sym, ap, subst, ◌∙◌, arith, get_or-set_other}
use Rattle.std.specs.Prelude.{sum_by, MatchOption}
use Rattle.std.specs.Option.{unwrap_or}
use Rattle.std.proofs.lemmas.Bool.{cases_eq, cases_lt}
use Rattle.std.proofs.lemmas.List.{take_more, length_push}
use Rattle.std.proofs.lemmas.List.Elements.{Contains-push, Contains-push_cases, Contains-append_left}
use Rattle.std.proofs.lemmas.List.Sums.{sum_by-cons, sum_by-set}
use Rattle.reference_graph.specs.declared.cycle.Standing.{Standing}
use Rattle.reference_graph.specs.declared.cycle.Standing.TheVariants.{Unseen, Waiting, Settled}
use Rattle.reference_graph.specs.Waits.{IsUnseen, IsWaiting, NoneWaits, IsLeastWaiting, AreSettled}

-- how much work a standing leaves
abbrev pub weight : Standing → ℕ
weight Unseen = 2
weight (Waiting place) = 0
weight Settled = 0

-- it waits at this place
pub record WaitsAt (standing : Standing) : Type 0 where
  pub place : ℕ
  pub is : standing ≡ Waiting place

pub seen_cases : (standing : Standing) → (standing ≡ Unseen → ⊥) → WaitsAt standing ⊎ (standing ≡ Settled)
seen_cases Unseen h = absurd (h refl)
seen_cases (Waiting place) h = inl (record { place = place; is = refl })
seen_cases Settled h = inr refl

-- a seen node keeps its standing where an unseen one is set
pub enter_keeps : (standings : List Standing) (to : ℕ) (new : Standing) (node : ℕ) (old : Standing) → IsUnseen standings to → (old ≡ Unseen → ⊥) → get_or standings node Unseen ≡ old → get_or (set standings to new) node Unseen ≡ old
enter_keeps standings to new node old unseen seen h = elim (cases_eq node to) [
  | inl e ↦ absurd (seen (sym h ∙ subst (λ (n : ℕ). get_or standings n Unseen ≡ Unseen) (sym e) unseen))
  | inr ne ↦ get_or-set_other standings to node new Unseen ne ∙ h
]

-- what entering a node takes off the work that is left
pub enter_lighter : (standings : List Standing) (to place : ℕ) → to < length standings → IsUnseen standings to → sum_by weight (set standings to (Waiting place)) + 2 ≡ sum_by weight standings
enter_lighter standings to place lt unseen =
    let h = sum_by-set weight standings to (Waiting place) Unseen lt in
    let h2 = rw unseen at h in
    omega (arith, h2)

-- settling leaves no more work than there was
pub work_falls : (before after : List Standing) → length after ≡ length before → ((node : ℕ) → weight (get_or after node Unseen) ≤ weight (get_or before node Unseen)) → sum_by weight after ≤ sum_by weight before
work_falls [] [] e le = omega arith
work_falls [] (b ∷ bs) e le = absurd (omega (arith, e))
work_falls (a ∷ as') [] e le = absurd (omega (arith, e))
work_falls (a ∷ as') (b ∷ bs) e le =
    let h = work_falls as' bs (omega (arith, e)) (λ node. le (suc node)) in
    let k = le 0 in
    omega (arith, h, k, sum_by-cons weight a as', sum_by-cons weight b bs)

pub settled_lighter : (waiting : List ℕ) (place end : ℕ) (standings standings' : List Standing) → length standings' ≡ length standings → AreSettled waiting place end standings standings' → sum_by weight standings' ≤ sum_by weight standings
settled_lighter waiting place end standings standings' sized a =
    work_falls standings standings' sized
    (λ node. elim (a.others node) [
      | inl listed ↦ let h = ap weight (a.settled node listed) in omega (arith, h)
      | inr same ↦ let h = ap weight same in omega (arith, h)
    ])

-- an entry less, and no more work than before
pub leave_lighter : {X : Type 0} → (before after : List Standing) (trail trail' : List X) (x : X) → sum_by weight after ≤ sum_by weight before → trail ≡ trail' ++ x ∷ [] → sum_by weight after + length trail' < sum_by weight before + length trail
leave_lighter before after trail trail' x le e =
    let h = ap length e in
    let longer = length_push trail' x in
    omega (arith, h, longer, le)

-- a reference more that does not wait
pub least_skips : (standings : List Standing) (references : List ℕ) (i : ℕ) (found : Option ℕ) → i < length references → ((place : ℕ) → IsWaiting standings (get_or references i 0) place → ⊥)
    → MatchOption found (NoneWaits standings (take i references)) (IsLeastWaiting standings (take i references)) → MatchOption found (NoneWaits standings (take (i + 1) references)) (IsLeastWaiting standings (take (i + 1) references))
least_skips standings references i None lt not none = rw (take_more references i 0 lt) (λ node place h waits. elim (Contains-push_cases (take i references) (get_or references i 0) node h) [
  | inl before ↦ none node place before waits
  | inr e ↦ not place (subst (λ (n : ℕ). IsWaiting standings n place) (sym e) waits)
])
least_skips standings references i (Some least) lt not w = rw (take_more references i 0 lt) (record {
  node = w.node;
  stands = Contains-append_left (take i references) (get_or references i 0 ∷ []) w.node w.stands;
  waits = w.waits;
  least = λ other at h waits. elim (Contains-push_cases (take i references) (get_or references i 0) other h) [
    | inl before ↦ w.least other at before waits
    | inr e ↦ absurd (not at (subst (λ (n : ℕ). IsWaiting standings n at) (sym e) waits))
  ];
})

same_place : (standings : List Standing) (node other place at : ℕ) → node ≡ other → IsWaiting standings node place → IsWaiting standings other at → place ≡ at
same_place standings node other place at e h k =
    let both : Waiting place ≡ Waiting at = sym h ∙ subst (λ (n : ℕ). IsWaiting standings n at) (sym e) k in
    cc

-- a reference more that waits at this place
pub least_takes : (standings : List Standing) (references : List ℕ) (i place : ℕ) (found : Option ℕ) → i < length references → IsWaiting standings (get_or references i 0) place
    → MatchOption found (NoneWaits standings (take i references)) (IsLeastWaiting standings (take i references)) → IsLeastWaiting standings (take (i + 1) references) (min place (unwrap_or found place))
least_takes standings references i place None lt here none =
    let e : place ≡ min place place = omega arith in
    subst (IsLeastWaiting standings (take (i + 1) references)) e (rw (take_more references i 0 lt) (record {
      node = get_or references i 0;
      stands = Contains-push (take i references) (get_or references i 0);
      waits = here;
      least = λ other at h waits. elim (Contains-push_cases (take i references) (get_or references i 0) other h) [
        | inl before ↦ absurd (none other at before waits)
        | inr e ↦ let same = same_place standings (get_or references i 0) other place at e here waits in omega (arith, same)
      ];
    }))
least_takes standings references i place (Some least) lt here w =
    elim (cases_lt place least) [
      | inl lower ↦
          let e : place ≡ min place least = omega (arith, lower) in
          subst (IsLeastWaiting standings (take (i + 1) references)) e (rw (take_more references i 0 lt) (record {
            node = get_or references i 0;
            stands = Contains-push (take i references) (get_or references i 0);
            waits = here;
            least = λ other at h waits. elim (Contains-push_cases (take i references) (get_or references i 0) other h) [
              | inl before ↦ let le = w.least other at before waits in omega (arith, le, lower)
              | inr e ↦ let same = same_place standings (get_or references i 0) other place at e here waits in omega (arith, same)
            ];
          }))
      | inr higher ↦
          let e : least ≡ min place least = omega (arith, higher) in
          subst (IsLeastWaiting standings (take (i + 1) references)) e (rw (take_more references i 0 lt) (record {
            node = w.node;
            stands = Contains-append_left (take i references) (get_or references i 0 ∷ []) w.node w.stands;
            waits = w.waits;
            least = λ other at h waits. elim (Contains-push_cases (take i references) (get_or references i 0) other h) [
              | inl before ↦ w.least other at before waits
              | inr e ↦ let same = same_place standings (get_or references i 0) other place at e here waits in omega (arith, same, higher)
            ];
          }))
    ]
