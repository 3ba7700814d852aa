-- What the first difference is, and that there is none exactly where labels and rows are alike.
use Rattle.std.proofs.Common.{◌≡◌, ◌↔◌, inl, inr, ℕ, List, length, refl, sym, ap, subst, ◌∙◌, arith}
use Rattle.std.specs.Prelude.{slice_get, Option, Some, None, Contains}
use Rattle.std.proofs.lemmas.Bool.{cases_lt}
use Rattle.std.proofs.lemmas.Option.{slice_get_within}
use Rattle.or_geom.proofs.ListLaws.{contained_at, one_at}
use Rattle.netlist.specs.declared.rows.RowPin.{RowPin}
use Rattle.net_extractor.specs.PlainNetLabel.{PlainNetLabel}
use Rattle.net_extractor.specs.declared.conflicts.Conflict.{Conflict}
use Rattle.net_extractor.specs.declared.conflicts.Conflict.TheVariants as conflict
use Rattle.net_extractor.specs.declared.difference.NetDiff.{NetDiff}
use Rattle.net_extractor.specs.declared.difference.NetDiff.TheVariants.{Unlabelled, Stranger, Open, Short}
use Rattle.net_extractor.specs.declared.difference.PinName.{PinName}
use Rattle.net_extractor.specs.Difference.{HasNet, Agree, AreAlike}
use Rattle.net_extractor.specs.FirstDifference.{IsUnlabelledAt, IsStrangerAt, AreLabelled, AreRightBefore, AreOpen, AreShort, IsTornAt, IsWrongAt, name_of_pin, name_of_label, ArePaired, FirstUnlabelled, FirstStranger, FirstTorn, FirstWrong, IsFirstDifference}
use Rattle.net_extractor.specs.Conflicts.{IsConflict, AreConflictPins, ArePinNames, IsDifferenceOf}
use Rattle.net_extractor.proofs.PlaceLaws.{at_contained}

turned : (labels : List PlainNetLabel) (q p : RowPin) → Agree labels q p → Agree labels p q
turned labels q p a m n has_m has_n = (λ e. sym ((a n m has_n has_m).0 (sym e)), λ e. sym ((a n m has_n has_m).1 (sym e)))

agree_all : (labels : List PlainNetLabel) (pins : List RowPin) (p q : RowPin) → AreRightBefore labels pins (length pins) → Contains pins p → Contains pins q → Agree labels p q
agree_all labels pins p q right in_p in_q =
    let j = in_p.0 in
    let k = in_q.0 in
    let at_p = at_contained pins p in_p in
    let at_q = at_contained pins q in_q in
    elim (cases_lt j k) [
      | inl lt ↦ right.agree j k p q lt in_q.1 at_p at_q
      | inr ge ↦ elim (cases_lt k j) [
        | inl lt ↦ turned labels q p (right.agree k j q p lt in_p.1 at_q at_p)
        | inr le ↦
            let e : k ≡ j = omega arith in
            let same : p ≡ q = one_at pins j p q at_p (subst (λ (i : ℕ). slice_get pins i ≡ Some q) e at_q) in
            λ m n has_m has_n. (λ _. ap (λ (r : RowPin). r.net) same, λ _. right.whole k q in_q.1 at_q m n (subst (λ (r : RowPin). HasNet labels r m) same has_m) has_n)
      ]
    ]

pub alike : (labels : List PlainNetLabel) (pins : List RowPin) → ArePaired labels pins → AreRightBefore labels pins (length pins) → ◌≡◌ {A = Option NetDiff} None None ↔ AreAlike labels pins
alike labels pins paired right = (
  λ _. record {
    labelled = λ pin h. paired.labelled h.0 pin (at_contained pins pin h);
    placed = λ label h. paired.placed h.0 label (at_contained labels label h);
    whole = λ pin h. right.whole h.0 pin h.1 (at_contained pins pin h);
    agree = λ p q in_p in_q. agree_all labels pins p q right in_p in_q;
  },
  λ _. refl,
)

-- labels and rows that have a first difference are not alike
pub differs : (labels : List PlainNetLabel) (pins : List RowPin) (d : NetDiff) → IsFirstDifference labels pins d → AreAlike labels pins → ⊥
differs labels pins (Unlabelled name) d a = d.lack.first.has (a.labelled d.lack.pin (contained_at pins d.place d.lack.pin d.lack.first.here))
differs labels pins (Stranger name) d a = a.placed d.stranger.label (contained_at labels d.place d.stranger.label d.stranger.first.here) d.stranger.first.has
differs labels pins (Open first second) (inl d) a =
    let t = d.torn.torn in
    t.differ (a.whole d.torn.pin (contained_at pins d.place d.torn.pin d.torn.here) t.m t.n t.first t.second)
differs labels pins (Open first second) (inr d) a =
    let w = d.pair.wrong in
    w.differ ((a.agree d.pair.other d.pair.pin (contained_at pins d.earlier d.pair.other d.pair.there) (contained_at pins d.place d.pair.pin d.pair.here) w.m w.n w.first w.second).1 w.one)
differs labels pins (Short first second) d a =
    let w = d.pair.wrong in
    w.differ ((a.agree d.pair.other d.pair.pin (contained_at pins d.earlier d.pair.other d.pair.there) (contained_at pins d.place d.pair.pin d.pair.here) w.net w.net w.first w.second).0 refl)

-- there is a difference
pub differ : (labels : List PlainNetLabel) (pins : List RowPin) (d : NetDiff) → IsFirstDifference labels pins d → ◌≡◌ {A = Option NetDiff} (Some d) None ↔ AreAlike labels pins
differ labels pins d first = (λ e. absurd cc, λ a. absurd (differs labels pins d first a))

pub unlabelled : (labels : List PlainNetLabel) (pins : List RowPin) (place : ℕ) (pin : RowPin) (name : PinName) → IsUnlabelledAt labels pins place → slice_get pins place ≡ Some pin → name ≡ name_of_pin pin → FirstUnlabelled labels pins name
unlabelled labels pins place pin name lack here named = record { place = place; lack = lack; named = named ∙ ap name_of_pin (one_at pins place pin lack.pin here lack.first.here) }

pub stranger : (labels : List PlainNetLabel) (pins : List RowPin) (place : ℕ) (label : PlainNetLabel) (name : PinName) → AreLabelled labels pins → IsStrangerAt labels pins place → slice_get labels place ≡ Some label → name ≡ name_of_label label → FirstStranger labels pins name
stranger labels pins place label name labelled s here named = record { labelled = labelled; place = place; stranger = s; named = named ∙ ap name_of_label (one_at labels place label s.label here s.first.here) }

torn : (labels : List PlainNetLabel) (pins : List RowPin) (i j : ℕ) (first second : PinName) → ArePaired labels pins → i ≡ j → IsTornAt labels pins j → ArePinNames pins i j first second → FirstTorn labels pins first second
torn labels pins i j first second paired e t n = record {
  paired = paired;
  place = j;
  torn = t;
  named = n.first_is ∙ ap name_of_pin (one_at pins j n.q t.pin (subst (λ (k : ℕ). slice_get pins k ≡ Some n.q) e n.at_q) t.here);
  again = n.second_is ∙ ap name_of_pin (one_at pins j n.p t.pin n.at_p t.here);
}

wrong : (Wrong : RowPin → RowPin → Type 0) (labels : List PlainNetLabel) (pins : List RowPin) (i j : ℕ) (first second : PinName) → ArePaired labels pins → IsWrongAt Wrong labels pins i j → ArePinNames pins i j first second → FirstWrong Wrong labels pins first second
wrong Wrong labels pins i j first second paired w n = record {
  paired = paired;
  earlier = i;
  place = j;
  pair = w;
  named = n.first_is ∙ ap name_of_pin (one_at pins i n.q w.other n.at_q w.there);
  then = n.second_is ∙ ap name_of_pin (one_at pins j n.p w.pin n.at_p w.here);
}

pub conflict_first : (labels : List PlainNetLabel) (pins : List RowPin) (c : Conflict) (d : NetDiff) → ArePaired labels pins → IsConflict labels pins c → IsDifferenceOf pins c d → IsFirstDifference labels pins d
conflict_first labels pins (conflict.Open i j) (Unlabelled name) paired h n = absurd n
conflict_first labels pins (conflict.Open i j) (Stranger name) paired h n = absurd n
conflict_first labels pins (conflict.Open i j) (Open first second) paired (inl h) n = inl (torn labels pins i j first second paired h.0 h.1 n)
conflict_first labels pins (conflict.Open i j) (Open first second) paired (inr h) n = inr (wrong (AreOpen labels) labels pins i j first second paired h n)
conflict_first labels pins (conflict.Open i j) (Short first second) paired h n = absurd n
conflict_first labels pins (conflict.Short i j) (Unlabelled name) paired h n = absurd n
conflict_first labels pins (conflict.Short i j) (Stranger name) paired h n = absurd n
conflict_first labels pins (conflict.Short i j) (Open first second) paired h n = absurd n
conflict_first labels pins (conflict.Short i j) (Short first second) paired h n = wrong (AreShort labels) labels pins i j first second paired h n

pub conflict_within : (labels : List PlainNetLabel) (pins : List RowPin) (c : Conflict) → IsConflict labels pins c → AreConflictPins pins c
conflict_within labels pins (conflict.Open i j) (inl h) = let lt = slice_get_within pins j h.1.pin h.1.here in let e = h.0 in (omega (arith, e, lt), lt)
conflict_within labels pins (conflict.Open i j) (inr h) = (slice_get_within pins i h.other h.there, slice_get_within pins j h.pin h.here)
conflict_within labels pins (conflict.Short i j) h = (slice_get_within pins i h.other h.there, slice_get_within pins j h.pin h.here)
