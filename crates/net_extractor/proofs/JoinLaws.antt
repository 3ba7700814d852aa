-- Sets that are joined, pair by pair.
use Rattle.std.proofs.Common.{◌≡◌, ◌⊎◌, inl, inr, ℕ, ◌≤◌, List, [], ◌∷◌, length, set, Some, refl, sym, subst, ◌∙◌, arith}
use Rattle.std.specs.Prelude.{slice_get}
use Rattle.std.proofs.lemmas.Bool.{cases_eq}
use Rattle.std.proofs.lemmas.List.{length-set}
use Rattle.std.proofs.lemmas.Option.{slice_get_within}
use Rattle.or_geom.specs.Gathering.{SomeHas}
use Rattle.or_geom.proofs.ListLaws.{one_at}
use Rattle.tech_rules.specs.Linked.{AreLinked}
use Rattle.tech_rules.proofs.LinkedLaws.{linked_on, linked_next, linked_back}
use Rattle.net_extractor.specs.Sets.{IsFalling, IsRootStep, Anywhere, AreTogether, Keeps, IsRoot, AreSameSets, FindsRoot, IsRootStepBy, JoinsSets, AreThesePlaces}
use Rattle.net_extractor.proofs.SetLaws.{linked_by, itself, further, backward, upward, keeps_by, keeps_on, alike_itself, alike_on, set_here, set_elsewhere, was_elsewhere, was_here}

-- the pairs of which P holds, with the sets as they were
by_turned : (above : List ℕ) (P : ℕ → ℕ → Type 0) (a b : ℕ) → IsRootStepBy above P a b → IsRootStepBy above P b a
by_turned above P a b (inl way) = inl (backward above a b way)
by_turned above P a b (inr (inl p)) = inr (inr p)
by_turned above P a b (inr (inr p)) = inr (inl p)

by_back : (above : List ℕ) (P : ℕ → ℕ → Type 0) (a b : ℕ) → AreLinked Anywhere (IsRootStepBy above P) a b → AreLinked Anywhere (IsRootStepBy above P) b a
by_back above P a b way = linked_back Anywhere (IsRootStepBy above P) (by_turned above P) a b tt way

pub by_one : (above : List ℕ) (P : ℕ → ℕ → Type 0) (a b : ℕ) → IsRootStepBy above P a b → AreLinked Anywhere (IsRootStepBy above P) a b
by_one above P a b step = linked_next Anywhere (IsRootStepBy above P) a b tt step

by_on : (above : List ℕ) (P : ℕ → ℕ → Type 0) (a b c : ℕ) → AreLinked Anywhere (IsRootStepBy above P) a b → AreLinked Anywhere (IsRootStepBy above P) b c → AreLinked Anywhere (IsRootStepBy above P) a c
by_on above P a b c one two = linked_on Anywhere (IsRootStepBy above P) a b c one two

-- pairs that are together already, where at most roots were found
pub alike_together : (P : ℕ → ℕ → Type 0) (old new : List ℕ) → AreSameSets old new → ((a b : ℕ) → P a b → AreTogether new a b) → JoinsSets P old new
alike_together P old new alike together = record {
  sized = alike.sized;
  falls = alike.falls;
  kept = alike.kept;
  each = together;
  only = λ a b way. by_one old P a b (inl (alike.back.keeps a b way));
}

pub joins_none : (P : ℕ → ℕ → Type 0) (above : List ℕ) → IsFalling above → ((a b : ℕ) → P a b → ⊥) → JoinsSets P above above
joins_none P above falls none = alike_together P above above (alike_itself above falls) (λ a b p. absurd (none a b p))

-- the same of other pairs, which may be the same ones the other way round
pub joins_as : (P Q : ℕ → ℕ → Type 0) (old new : List ℕ) → ((a b : ℕ) → P a b → Q a b ⊎ Q b a) → ((a b : ℕ) → Q a b → P a b ⊎ P b a) → JoinsSets P old new → JoinsSets Q old new
joins_as P Q old new to from joins = record {
  sized = joins.sized;
  falls = joins.falls;
  kept = joins.kept;
  each = λ a b q. elim (from a b q) [
    | inl p ↦ joins.each a b p
    | inr p ↦ backward new b a (joins.each b a p)
  ];
  only = λ a b way. linked_by Anywhere (IsRootStepBy old P) (IsRootStepBy old Q) (λ x y step. elim step [
    | inl stays ↦ by_one old Q x y (inl stays)
    | inr pair ↦ elim pair [
      | inl p ↦ by_one old Q x y (inr (to x y p))
      | inr p ↦ by_back old Q y x (by_one old Q y x (inr (to y x p)))
    ]
  ]) a b (joins.only a b way);
}

pub joins_both : (P Q : ℕ → ℕ → Type 0) (old now new : List ℕ) → JoinsSets P old now → JoinsSets Q now new → JoinsSets (λ a b. P a b ⊎ Q a b) old new
joins_both P Q old now new one two =
    let R : ℕ → ℕ → Type 0 = λ a b. P a b ⊎ Q a b in
    record {
      sized = two.sized ∙ one.sized;
      falls = two.falls;
      kept = keeps_on old now new one.kept two.kept;
      each = λ a b r. elim r [
        | inl p ↦ two.kept.keeps a b (one.each a b p)
        | inr q ↦ two.each a b q
      ];
      only = λ a b way. linked_by Anywhere (IsRootStepBy now Q) (IsRootStepBy old R) (λ x y step. elim step [
        | inl before ↦ linked_by Anywhere (IsRootStepBy old P) (IsRootStepBy old R) (λ v w s. elim s [
          | inl stays ↦ by_one old R v w (inl stays)
          | inr pair ↦ elim pair [
            | inl p ↦ by_one old R v w (inr (inl (inl p)))
            | inr p ↦ by_one old R v w (inr (inr (inl p)))
          ]
        ]) x y (one.only x y before)
        | inr pair ↦ elim pair [
          | inl q ↦ by_one old R x y (inr (inl (inr q)))
          | inr q ↦ by_one old R x y (inr (inr (inr q)))
        ]
      ]) a b (two.only a b way);
    }

-- sets that are alike
pub joins_alike : (P : ℕ → ℕ → Type 0) (old now new : List ℕ) → JoinsSets P old now → AreSameSets now new → JoinsSets P old new
joins_alike P old now new joins alike = record {
  sized = alike.sized ∙ joins.sized;
  falls = alike.falls;
  kept = keeps_on old now new joins.kept alike.kept;
  each = λ a b p. alike.kept.keeps a b (joins.each a b p);
  only = λ a b way. joins.only a b (alike.back.keeps a b way);
}

pub alike_joins : (P : ℕ → ℕ → Type 0) (old now new : List ℕ) → AreSameSets old now → JoinsSets P now new → JoinsSets P old new
alike_joins P old now new alike joins = record {
  sized = joins.sized ∙ alike.sized;
  falls = joins.falls;
  kept = keeps_on old now new alike.kept joins.kept;
  each = joins.each;
  only = λ a b way. linked_by Anywhere (IsRootStepBy now P) (IsRootStepBy old P) (λ x y step. elim step [
    | inl stays ↦ by_one old P x y (inl (alike.back.keeps x y stays))
    | inr pair ↦ by_one old P x y (inr pair)
  ]) a b (joins.only a b way);
}

-- a root is set below another place
module _ (above : List ℕ) (high low : ℕ) (falls : IsFalling above) (top : IsRoot above high) (le : low ≤ high) where
  linked_falls : IsFalling (set above high low)
  linked_falls = record {
    falls = λ place o there. elim (cases_eq place high) [
      | inl e ↦
          let same = was_here above high low o (subst (λ (k : ℕ). slice_get (set above high low) k ≡ Some o) e there) in
          omega (arith, e, same, le)
      | inr ne ↦ falls.falls place o (was_elsewhere above high place low o ne there)
    ];
  }

  linked_kept : Keeps above (set above high low)
  linked_kept = keeps_by above (set above high low) (λ place o there. elim (cases_eq place high) [
    | inl e ↦
        let same = one_at above high high o top (subst (λ (k : ℕ). slice_get above k ≡ Some o) e there) in
        subst (λ (k : ℕ). AreTogether (set above high low) place k) (e ∙ same) (itself (set above high low) place)
    | inr ne ↦ upward (set above high low) place o (set_elsewhere above high place low o ne there)
  ])

  step_by : (x y : ℕ) → slice_get (set above high low) x ≡ Some y → IsRootStepBy above (AreThesePlaces high low) x y
  step_by x y there = elim (cases_eq x high) [
    | inl e ↦ inr (inl (record { first = e; second = was_here above high low y (subst (λ (k : ℕ). slice_get (set above high low) k ≡ Some y) e there) }))
    | inr ne ↦ inl (upward above x y (was_elsewhere above high x low y ne there))
  ]

  pub root_joins : JoinsSets (AreThesePlaces high low) above (set above high low)
  root_joins = record {
    sized = length-set above high low;
    falls = linked_falls;
    kept = linked_kept;
    each = λ a b pair.
        let up = upward (set above high low) high low (set_here above high low (slice_get_within above high high top)) in
        subst (λ (k : ℕ). AreTogether (set above high low) k b) (sym pair.first) (subst (λ (k : ℕ). AreTogether (set above high low) high k) (sym pair.second) up);
    only = λ a b way. linked_by Anywhere (IsRootStep (set above high low)) (IsRootStepBy above (AreThesePlaces high low)) (λ x y step. elim step [
      | inl up ↦ by_one above (AreThesePlaces high low) x y (step_by x y up)
      | inr down ↦ by_back above (AreThesePlaces high low) y x (by_one above (AreThesePlaces high low) y x (step_by y x down))
    ]) a b way;
  }

-- to join one pair is to join another, where each of the one is together with one of the other
pair_joins : (a b c d : ℕ) (old new : List ℕ) → AreTogether old a c → AreTogether old b d → JoinsSets (AreThesePlaces c d) old new → JoinsSets (AreThesePlaces a b) old new
pair_joins a b c d old new first second joins =
    let P : ℕ → ℕ → Type 0 = AreThesePlaces a b in
    let across : AreLinked Anywhere (IsRootStepBy old P) c d =
    by_on old P c a d (by_one old P c a (inl (backward old a c first))) (by_on old P a b d (by_one old P a b (inr (inl (record { first = refl; second = refl })))) (by_one old P b d (inl second))) in
    record {
      sized = joins.sized;
      falls = joins.falls;
      kept = joins.kept;
      each = λ i j pair.
          let way = further new a c b (joins.kept.keeps a c first) (further new c d b (joins.each c d (record { first = refl; second = refl })) (joins.kept.keeps d b (backward old b d second))) in
          subst (λ (k : ℕ). AreTogether new k j) (sym pair.first) (subst (λ (k : ℕ). AreTogether new a k) (sym pair.second) way);
      only = λ i j way. linked_by Anywhere (IsRootStepBy old (AreThesePlaces c d)) (IsRootStepBy old P) (λ x y step. elim step [
        | inl stays ↦ by_one old P x y (inl stays)
        | inr pair ↦ elim pair [
          | inl p ↦ subst (λ (k : ℕ). AreLinked Anywhere (IsRootStepBy old P) k y) (sym p.first) (subst (λ (k : ℕ). AreLinked Anywhere (IsRootStepBy old P) c k) (sym p.second) across)
          | inr p ↦ by_back old P y x (subst (λ (k : ℕ). AreLinked Anywhere (IsRootStepBy old P) k x) (sym p.first) (subst (λ (k : ℕ). AreLinked Anywhere (IsRootStepBy old P) c k) (sym p.second) across))
        ]
      ]) i j (joins.only i j way);
    }

turn_pair : (a b : ℕ) (old new : List ℕ) → JoinsSets (AreThesePlaces b a) old new → JoinsSets (AreThesePlaces a b) old new
turn_pair a b old new joins =
    joins_as (AreThesePlaces b a) (AreThesePlaces a b) old new (λ i j p. inr (record { first = p.second; second = p.first })) (λ i j p. inr (record { first = p.second; second = p.first })) joins

-- the roots of two places, one found after the other
module _ (a b first second : ℕ) (old now last : List ℕ) (one : FindsRoot old a first now) (two : FindsRoot now b second last) where
  alike : AreSameSets old last
  alike = alike_on old now last one.alike two.alike

  pub first_below : second ≤ first → JoinsSets (AreThesePlaces a b) old (set last first second)
  first_below le =
      pair_joins a b first second old (set last first second) one.leads (one.alike.back.keeps b second two.leads)
      (alike_joins (AreThesePlaces first second) old last (set last first second) alike (root_joins last first second two.alike.falls (two.alike.roots first one.top) le))

  pub second_below : first ≤ second → JoinsSets (AreThesePlaces a b) old (set last second first)
  second_below le =
      turn_pair a b old (set last second first)
      (pair_joins b a second first old (set last second first) (one.alike.back.keeps b second two.leads) one.leads
      (alike_joins (AreThesePlaces second first) old last (set last second first) alike (root_joins last second first two.alike.falls two.top le)))

-- what some items of a list say that is to be joined was joined
pub record IsJoining {Y : Type 0} (has : Y → ℕ → ℕ → Type 0) (all rest : List Y) (old now : List ℕ) : Type 0 where
  pub sized : length now ≡ length old
  pub falls : IsFalling now
  pub completes : (new : List ℕ) → JoinsSets (λ a b. SomeHas (λ y. has y a b) rest) now new → JoinsSets (λ a b. SomeHas (λ y. has y a b) all) old new

pub joining_begins : {Y : Type 0} (has : Y → ℕ → ℕ → Type 0) (all : List Y) (above : List ℕ) → IsFalling above → IsJoining has all all above above
joining_begins has all above falls = record { sized = refl; falls = falls; completes = λ new joins. joins }

pub joining_goes_on : {Y : Type 0} (has : Y → ℕ → ℕ → Type 0) (all rest others : List Y) (first : Y) (old now next : List ℕ) → rest ≡ first ∷ others → IsJoining has all rest old now → JoinsSets (has first) now next → IsJoining has all others old next
joining_goes_on {Y} has all rest others first old now next e so_far joins =
    let w : IsJoining has all (first ∷ others) old now = subst (λ (r : List Y). IsJoining has all r old now) e so_far in
    record {
      sized = joins.sized ∙ so_far.sized;
      falls = joins.falls;
      completes = λ new rest_joins. w.completes new (joins_both (has first) (λ a b. SomeHas (λ y. has y a b) others) now next new joins rest_joins);
    }

pub joining_ends : {Y : Type 0} (has : Y → ℕ → ℕ → Type 0) (all rest : List Y) (old now : List ℕ) → rest ≡ [] → IsJoining has all rest old now → JoinsSets (λ a b. SomeHas (λ y. has y a b) all) old now
joining_ends {Y} has all rest old now e so_far =
    let w : IsJoining has all [] old now = subst (λ (r : List Y). IsJoining has all r old now) e so_far in
    w.completes now (joins_none (λ a b. SomeHas (λ y. has y a b) []) now so_far.falls (λ a b none. none))
