-- Disjoint sets of places.
use Rattle.std.proofs.Common.{◌≡◌, inl, inr, ℕ, ◌+◌, ◌<◌, ◌≤◌, List, length, get_or, set, Some, refl, sym, ap, subst, ◌∙◌, arith, get_or-set_same, get_or-set_other}
use Rattle.std.specs.Prelude.{slice_get, Contains}
use Rattle.std.proofs.lemmas.Bool.{cases_eq, cases_lt}
use Rattle.std.proofs.lemmas.List.{length-set}
use Rattle.std.proofs.lemmas.Option.{slice_get_within, slice_get-get_or, get_or_from_slice_get}
use Rattle.or_geom.proofs.ListLaws.{one_at}
use Rattle.tech_rules.specs.Linked.{AreLinked}
use Rattle.tech_rules.proofs.LinkedLaws.{linked_itself, linked_on, linked_next, linked_back, linked_carries}
use Rattle.net_extractor.specs.Sets.{IsFalling, IsRootStep, Anywhere, AreTogether, Keeps, IsRoot, AreSameSets, AreAlone}

-- where each step is a way by other steps, so is each way
pub linked_by : {X : Type 0} (P : X → Type 0) (T U : X → X → Type 0) → ((x y : X) → T x y → AreLinked P U x y) → (a b : X) → AreLinked P T a b → AreLinked P U a b
linked_by P T U way a b linked = linked_carries P T (AreLinked P U a) (λ x y so_far has step. linked_on P U a x y so_far (way x y step)) a b (linked_itself P U a) linked

pub itself : (above : List ℕ) (a : ℕ) → AreTogether above a a
itself above a = linked_itself Anywhere (IsRootStep above) a

pub further : (above : List ℕ) (a b c : ℕ) → AreTogether above a b → AreTogether above b c → AreTogether above a c
further above a b c one two = linked_on Anywhere (IsRootStep above) a b c one two

turned : (above : List ℕ) (a b : ℕ) → IsRootStep above a b → IsRootStep above b a
turned above a b (inl up) = inr up
turned above a b (inr down) = inl down

pub backward : (above : List ℕ) (a b : ℕ) → AreTogether above a b → AreTogether above b a
backward above a b way = linked_back Anywhere (IsRootStep above) (turned above) a b tt way

pub upward : (above : List ℕ) (a b : ℕ) → slice_get above a ≡ Some b → AreTogether above a b
upward above a b up = linked_next Anywhere (IsRootStep above) a b tt (inl up)

-- what stands over a place is with it still: then all that is together is
pub keeps_by : (old new : List ℕ) → ((place over : ℕ) → slice_get old place ≡ Some over → AreTogether new place over) → Keeps old new
keeps_by old new each = record {
  keeps = λ a b way. linked_by Anywhere (IsRootStep old) (IsRootStep new) (λ x y step. elim step [
    | inl up ↦ each x y up
    | inr down ↦ backward new y x (each y x down)
  ]) a b way;
}

pub keeps_itself : (above : List ℕ) → Keeps above above
keeps_itself above = record { keeps = λ a b way. way }

pub keeps_on : (old now new : List ℕ) → Keeps old now → Keeps now new → Keeps old new
keeps_on old now new one two = record { keeps = λ a b way. two.keeps a b (one.keeps a b way) }

pub alike_itself : (above : List ℕ) → IsFalling above → AreSameSets above above
alike_itself above falls = record { sized = refl; falls = falls; kept = keeps_itself above; back = keeps_itself above; roots = λ place root. root }

pub alike_on : (old now new : List ℕ) → AreSameSets old now → AreSameSets now new → AreSameSets old new
alike_on old now new one two = record {
  sized = two.sized ∙ one.sized;
  falls = two.falls;
  kept = keeps_on old now new one.kept two.kept;
  back = keeps_on new now old two.back one.back;
  roots = λ place root. two.roots place (one.roots place root);
}

-- what is set at a place, and what stays at the others
pub set_here : {X : Type 0} (xs : List X) (place : ℕ) (x : X) → place < length xs → slice_get (set xs place x) place ≡ Some x
set_here xs place x lt =
    let sized = length-set xs place x in
    slice_get-get_or (set xs place x) place x (omega (arith, sized)) ∙ ap (λ y. Some y) (get_or-set_same xs place x x lt)

pub set_elsewhere : {X : Type 0} (xs : List X) (place other : ℕ) (x y : X) → (other ≡ place → ⊥) → slice_get xs other ≡ Some y → slice_get (set xs place x) other ≡ Some y
set_elsewhere xs place other x y differ there =
    let lt = slice_get_within xs other y there in
    let sized = length-set xs place x in
    slice_get-get_or (set xs place x) other y (omega (arith, sized)) ∙ ap (λ z. Some z) (get_or-set_other xs place other x y differ ∙ get_or_from_slice_get xs other y y there)

pub was_elsewhere : {X : Type 0} (xs : List X) (place other : ℕ) (x y : X) → (other ≡ place → ⊥) → slice_get (set xs place x) other ≡ Some y → slice_get xs other ≡ Some y
was_elsewhere xs place other x y differ there =
    let lt = slice_get_within (set xs place x) other y there in
    let sized = length-set xs place x in
    slice_get-get_or xs other y (omega (arith, sized)) ∙ ap (λ z. Some z) (sym (get_or-set_other xs place other x y differ) ∙ get_or_from_slice_get (set xs place x) other y y there)

-- what the list has at a place after a change there
pub was_here : {X : Type 0} (xs : List X) (place : ℕ) (x y : X) → slice_get (set xs place x) place ≡ Some y → y ≡ x
was_here xs place x y there =
    let lt = slice_get_within (set xs place x) place y there in
    let sized = length-set xs place x in
    one_at (set xs place x) place y x there (set_here xs place x (omega (arith, sized)))

-- what stands over a place is replaced by what stands over that
module _ (above : List ℕ) (at next over : ℕ) (falls : IsFalling above) (up : slice_get above at ≡ Some next) (higher : slice_get above next ≡ Some over) where
  halved_falls : IsFalling (set above at over)
  halved_falls = record {
    falls = λ place o there. elim (cases_eq place at) [
      | inl e ↦
          let here = subst (λ (k : ℕ). slice_get (set above at over) k ≡ Some o) e there in
          let same = was_here above at over o here in
          let one = falls.falls at next up in
          let two = falls.falls next over higher in
          omega (arith, e, same, one, two)
      | inr ne ↦ falls.falls place o (was_elsewhere above at place over o ne there)
    ];
  }

  halved_back : Keeps (set above at over) above
  halved_back = keeps_by (set above at over) above (λ place o there. elim (cases_eq place at) [
    | inl e ↦
        let here = subst (λ (k : ℕ). slice_get (set above at over) k ≡ Some o) e there in
        let same = was_here above at over o here in
        subst (λ (k : ℕ). AreTogether above k o) (sym e) (subst (λ (k : ℕ). AreTogether above at k) (sym same) (further above at next over (upward above at next up) (upward above next over higher)))
    | inr ne ↦ upward above place o (was_elsewhere above at place over o ne there)
  ])

  here_now : slice_get (set above at over) at ≡ Some over
  here_now = set_here above at over (slice_get_within above at next up)

  next_with : AreTogether (set above at over) at next
  next_with = elim (cases_eq next at) [
    | inl e ↦ subst (λ (k : ℕ). AreTogether (set above at over) at k) (sym e) (itself (set above at over) at)
    | inr ne ↦
        let new = set above at over in
        further new at over next (upward new at over here_now) (backward new next over (upward new next over (set_elsewhere above at next over over ne higher)))
  ]

  halved_kept : Keeps above (set above at over)
  halved_kept = keeps_by above (set above at over) (λ place o there. elim (cases_eq place at) [
    | inl e ↦
        let here = subst (λ (k : ℕ). slice_get above k ≡ Some o) e there in
        let same = one_at above at next o up here in
        subst (λ (k : ℕ). AreTogether (set above at over) k o) (sym e) (subst (λ (k : ℕ). AreTogether (set above at over) at k) same next_with)
    | inr ne ↦ upward (set above at over) place o (set_elsewhere above at place over o ne there)
  ])

  halved_roots : (place : ℕ) → IsRoot above place → IsRoot (set above at over) place
  halved_roots place root = elim (cases_eq place at) [
    | inl e ↦
        let here : slice_get above at ≡ Some at = subst (IsRoot above) e root in
        let same = one_at above at next at up here in
        let top : slice_get above next ≡ Some next = subst (IsRoot above) (sym same) here in
        let all = one_at above next over next higher top in
        subst (IsRoot (set above at over)) (sym e) (here_now ∙ ap (λ (k : ℕ). Some k) (all ∙ same))
    | inr ne ↦ set_elsewhere above at place over place ne root
  ]

  pub halved : AreSameSets above (set above at over)
  halved = record { sized = length-set above at over; falls = halved_falls; kept = halved_kept; back = halved_back; roots = halved_roots }

-- a list of sets, with what stands over each place up to one its root
pub record AreFlatTo (above : List ℕ) (end : ℕ) : Type 0 where
  pub flat : (place over : ℕ) → place < end → slice_get above place ≡ Some over → IsRoot above over

pub flat_more : (above : List ℕ) (at next over : ℕ) → IsFalling above → slice_get above at ≡ Some next → slice_get above next ≡ Some over → AreFlatTo above at → AreFlatTo (set above at over) (at + 1)
flat_more above at next over falls up higher so_far = record {
  flat = λ place o lt there. elim (cases_eq place at) [
    | inl e ↦
        let here = subst (λ (k : ℕ). slice_get (set above at over) k ≡ Some o) e there in
        let same = was_here above at over o here in
        let le = falls.falls at next up in
        subst (IsRoot (set above at over)) (sym same) (elim (cases_eq next at) [
          | inl top ↦
              let root : IsRoot above at = up ∙ ap (λ (k : ℕ). Some k) top in
              let all : over ≡ at = sym (one_at above next next over (subst (IsRoot above) (sym top) root) higher) ∙ top in
              let now : IsRoot (set above at over) at = set_here above at over (slice_get_within above at next up) ∙ ap (λ (k : ℕ). Some k) all in
              subst (IsRoot (set above at over)) (sym all) now
          | inr ne ↦
              let lower = falls.falls next over higher in
              set_elsewhere above at over over over (λ same_place. ne (omega (arith, same_place, lower, le))) (so_far.flat next over (omega (arith, ne, le)) higher)
        ])
    | inr ne ↦
        let was = was_elsewhere above at place over o ne there in
        let le = falls.falls place o was in
        set_elsewhere above at o over o (omega (arith, ne, lt, le)) (so_far.flat place o (omega (arith, ne, lt)) was)
  ];
}

-- those of the places that stand in the order before a position are roots
pub record AreAloneBefore (order : List ℕ) (count end : ℕ) (above : List ℕ) : Type 0 where
  pub sized : length above ≡ count
  pub alone : (k place : ℕ) → k < end → slice_get order k ≡ Some place → place < count → IsRoot above place

pub alone_skips : (order : List ℕ) (count end : ℕ) (above : List ℕ) → count ≤ get_or order end 0 → end < length order → AreAloneBefore order count end above → AreAloneBefore order count (end + 1) above
alone_skips order count end above past within so_far = record {
  sized = so_far.sized;
  alone = λ k place lt there inside. elim (cases_lt k end) [
    | inl before ↦ so_far.alone k place before there inside
    | inr ge ↦
        let e : k ≡ end = omega (arith, lt, ge) in
        let is : get_or order end 0 ≡ place = ap (λ (n : ℕ). get_or order n 0) (sym e) ∙ get_or_from_slice_get order k place 0 there in
        absurd (omega (arith, past, is, inside))
  ];
}

pub alone_more : (order : List ℕ) (count end : ℕ) (above : List ℕ) → get_or order end 0 < count → AreAloneBefore order count end above → AreAloneBefore order count (end + 1) (set above (get_or order end 0) (get_or order end 0))
alone_more order count end above inside so_far =
    let here = get_or order end 0 in
    let sized = so_far.sized in
    let root : IsRoot (set above here here) here = set_here above here here (omega (arith, inside, sized)) in
    record {
      sized = length-set above here here ∙ so_far.sized;
      alone = λ k place lt there fits. elim (cases_eq place here) [
        | inl e ↦ subst (IsRoot (set above here here)) (sym e) root
        | inr ne ↦ elim (cases_lt k end) [
          | inl before ↦ set_elsewhere above here place here place ne (so_far.alone k place before there fits)
          | inr ge ↦
              let same : k ≡ end = omega (arith, lt, ge) in
              let is : here ≡ place = ap (λ (n : ℕ). get_or order n 0) (sym same) ∙ get_or_from_slice_get order k place 0 there in
              absurd (ne (sym is))
        ]
      ];
    }

pub alone_all : (order : List ℕ) (count end : ℕ) (above : List ℕ) → ((place : ℕ) → place < count → Contains order place) → length order ≤ end → AreAloneBefore order count end above → AreAlone count above
alone_all order count end above whole past so_far = record {
  sized = so_far.sized;
  alone = λ place inside.
      let h = whole place inside in
      let lt : h.0 < length order = h.1 in
      so_far.alone h.0 place (omega (arith, lt, past)) (slice_get-get_or order h.0 place lt ∙ ap (λ (n : ℕ). Some n) h.2) inside;
}

pub alone_begins : (order : List ℕ) (count : ℕ) (above : List ℕ) → length above ≡ count → AreAloneBefore order count 0 above
alone_begins order count above sized = record { sized = sized; alone = λ k place lt there inside. absurd (omega (arith, lt)) }
