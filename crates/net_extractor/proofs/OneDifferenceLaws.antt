-- Labels and rows have one first difference.
use Rattle.std.proofs.Common.{◌≡◌, inl, inr, ℕ, ◌+◌, ◌<◌, List, refl, sym, ap, subst, ◌∙◌, arith}
use Rattle.std.specs.Prelude.{slice_get, Some}
use Rattle.std.proofs.lemmas.Bool.{cases_lt}
use Rattle.or_geom.proofs.ListLaws.{one_at}
use Rattle.netlist.specs.declared.rows.RowPin.{RowPin}
use Rattle.net_extractor.specs.PlainNetLabel.{PlainNetLabel}
use Rattle.net_extractor.specs.declared.difference.NetDiff.TheVariants.{Unlabelled, Stranger, Open, Short}
use Rattle.net_extractor.specs.declared.difference.PinName.{PinName}
use Rattle.net_extractor.specs.Difference.{IsLabelled, IsStranger, IsWhole, Agree}
use Rattle.net_extractor.specs.FirstDifference.{IsFirst, IsUnlabelledAt, IsStrangerAt, AreLabelled, AreNoStrangers, AreRightBefore, AreOpen, AreShort, IsTornAt, IsWrongAt, name_of_pin, name_of_label, FirstTorn, FirstWrong}
use Rattle.net_extractor.specs.OneAnswer.{DifferencesAreUnique}

-- places of which neither is before the other are one
one_place : (i j : ℕ) → (i < j → ⊥) → (j < i → ⊥) → i ≡ j
one_place i j not_i not_j = elim (cases_lt i j) [
  | inl lt ↦ absurd (not_i lt)
  | inr ge ↦ elim (cases_lt j i) [ inl lt ↦ absurd (not_j lt) | inr le ↦ omega arith ]
]

-- what stands at two places that are one
one_here : {X : Type 0} (xs : List X) (i j : ℕ) (x y : X) → i ≡ j → slice_get xs i ≡ Some x → slice_get xs j ≡ Some y → x ≡ y
one_here xs i j x y e at_i at_j = one_at xs j x y (subst (λ (k : ℕ). slice_get xs k ≡ Some x) e at_i) at_j

-- there is one first
one_first : {X : Type 0} (P : X → Type 0) (xs : List X) (i j : ℕ) (x y : X) → IsFirst P xs i x → IsFirst P xs j y → x ≡ y
one_first P xs i j x y a b = one_here xs i j x y (one_place i j (λ lt. b.before i x lt a.here a.has) (λ lt. a.before j y lt b.here b.has)) a.here b.here

unlabelled_not : (labels : List PlainNetLabel) (pins : List RowPin) (place : ℕ) → IsUnlabelledAt labels pins place → AreLabelled labels pins → ⊥
unlabelled_not labels pins place u all = u.first.has (all place u.pin u.first.here)

stranger_not : (labels : List PlainNetLabel) (pins : List RowPin) (place : ℕ) → IsStrangerAt labels pins place → AreNoStrangers labels pins → ⊥
stranger_not labels pins place s none = none place s.label s.first.here s.first.has

-- something is wrong with the pin at the place, and with none before it
record Fails (labels : List PlainNetLabel) (pins : List RowPin) (place : ℕ) : Type 0 where
  right : AreRightBefore labels pins place
  not : AreRightBefore labels pins (place + 1) → ⊥

right_less : (labels : List PlainNetLabel) (pins : List RowPin) (i j : ℕ) → i < j → AreRightBefore labels pins j → AreRightBefore labels pins (i + 1)
right_less labels pins i j lt right = record {
  whole = λ k p below. right.whole k p (omega (arith, below, lt));
  agree = λ h k q p before below. right.agree h k q p before (omega (arith, below, lt));
}

-- that is so at one place
fails_once : (labels : List PlainNetLabel) (pins : List RowPin) (i j : ℕ) → Fails labels pins i → Fails labels pins j → i ≡ j
fails_once labels pins i j a b = one_place i j (λ lt. a.not (right_less labels pins i j lt b.right)) (λ lt. b.not (right_less labels pins j i lt a.right))

torn_fails : (labels : List PlainNetLabel) (pins : List RowPin) (place : ℕ) → IsTornAt labels pins place → Fails labels pins place
torn_fails labels pins place t = record {
  right = t.right;
  not = λ right. t.torn.differ (right.whole place t.pin (omega arith) t.here t.torn.m t.torn.n t.torn.first t.torn.second);
}

-- of pins that agree this is not so
abbrev Denies : List PlainNetLabel → (RowPin → RowPin → Type 0) → Type 0
Denies labels Wrong = (q p : RowPin) → Wrong q p → Agree labels q p → ⊥

open_denies : (labels : List PlainNetLabel) → Denies labels (AreOpen labels)
open_denies labels q p w agree = w.differ ((agree w.m w.n w.first w.second).1 w.one)

short_denies : (labels : List PlainNetLabel) → Denies labels (AreShort labels)
short_denies labels q p w agree = w.differ ((agree w.net w.net w.first w.second).0 refl)

wrong_fails : (Wrong : RowPin → RowPin → Type 0) (labels : List PlainNetLabel) (pins : List RowPin) (earlier place : ℕ) → Denies labels Wrong → IsWrongAt Wrong labels pins earlier place → Fails labels pins place
wrong_fails Wrong labels pins earlier place denies w = record {
  right = w.right;
  not = λ right. denies w.other w.pin w.wrong (right.agree earlier place w.other w.pin w.before (omega arith) w.there w.here);
}

-- a pin that has labels on two nets is not wrong with another
torn_or_wrong : (Wrong : RowPin → RowPin → Type 0) (labels : List PlainNetLabel) (pins : List RowPin) (i earlier j : ℕ) → Denies labels Wrong → IsTornAt labels pins i → IsWrongAt Wrong labels pins earlier j → ⊥
torn_or_wrong Wrong labels pins i earlier j denies t w =
    let place = fails_once labels pins i j (torn_fails labels pins i t) (wrong_fails Wrong labels pins earlier j denies w) in
    let pin = one_here pins j i w.pin t.pin (sym place) w.here t.here in
    t.torn.differ (subst (λ (p : RowPin). IsWhole labels p) pin w.whole t.torn.m t.torn.n t.torn.first t.torn.second)

-- the first pin that is wrong with an earlier one is one, and so is the earlier one, whatever is wrong
record OnePair (q p q' p' : RowPin) : Type 0 where
  other : q ≡ q'
  pin : p ≡ p'

module _ (V W : RowPin → RowPin → Type 0) (labels : List PlainNetLabel) (pins : List RowPin) (h i j k : ℕ) (denies_v : Denies labels V) (denies_w : Denies labels W) (v : IsWrongAt V labels pins h i) (w : IsWrongAt W labels pins j k) where
  one_pin : v.pin ≡ w.pin
  one_pin = one_here pins i k v.pin w.pin (fails_once labels pins i k (wrong_fails V labels pins h i denies_v v) (wrong_fails W labels pins j k denies_w w)) v.here w.here

  one_earlier : h ≡ j
  one_earlier = one_place h j
      (λ lt. denies_v v.other v.pin v.wrong (subst (Agree labels v.other) (sym one_pin) (w.agree h v.other lt v.there)))
      (λ lt. denies_w w.other w.pin w.wrong (subst (Agree labels w.other) one_pin (v.agree j w.other lt w.there)))

  one_pair : OnePair v.other v.pin w.other w.pin
  one_pair = record { other = one_here pins h j v.other w.other one_earlier v.there w.there; pin = one_pin }

-- pins that are open are not short
open_or_short : (labels : List PlainNetLabel) (pins : List RowPin) (first second first' second' : PinName) → FirstWrong (AreOpen labels) labels pins first second → FirstWrong (AreShort labels) labels pins first' second' → ⊥
open_or_short labels pins first second first' second' a b =
    let one = one_pair (AreOpen labels) (AreShort labels) labels pins a.earlier a.place b.earlier b.place (open_denies labels) (short_denies labels) a.pair b.pair in
    b.pair.wrong.differ (ap (λ (p : RowPin). p.net) (sym one.other) ∙ (a.pair.wrong.one ∙ ap (λ (p : RowPin). p.net) one.pin))

-- two names are two names
record OneNames (a b c d : PinName) : Type 0 where
  first : a ≡ c
  second : b ≡ d

one_wrong : (Wrong : RowPin → RowPin → Type 0) (labels : List PlainNetLabel) (pins : List RowPin) (a b c d : PinName) → Denies labels Wrong → FirstWrong Wrong labels pins a b → FirstWrong Wrong labels pins c d → OneNames a b c d
one_wrong Wrong labels pins a b c d denies v w =
    let one = one_pair Wrong Wrong labels pins v.earlier v.place w.earlier w.place denies denies v.pair w.pair in
    record { first = v.named ∙ (ap name_of_pin one.other ∙ sym w.named); second = v.then ∙ (ap name_of_pin one.pin ∙ sym w.then) }

one_torn : (labels : List PlainNetLabel) (pins : List RowPin) (a b c d : PinName) → FirstTorn labels pins a b → FirstTorn labels pins c d → OneNames a b c d
one_torn labels pins a b c d v w =
    let place = fails_once labels pins v.place w.place (torn_fails labels pins v.place v.torn) (torn_fails labels pins w.place w.torn) in
    let name = ap name_of_pin (one_here pins v.place w.place v.torn.pin w.torn.pin place v.torn.here w.torn.here) in
    record { first = v.named ∙ (name ∙ sym w.named); second = v.again ∙ (name ∙ sym w.again) }

pub one_difference : DifferencesAreUnique
one_difference labels pins (Unlabelled a) (Unlabelled b) d e =
    ap Unlabelled (d.named ∙ (ap name_of_pin (one_first (λ (p : RowPin). IsLabelled labels p → ⊥) pins d.place e.place d.lack.pin e.lack.pin d.lack.first e.lack.first) ∙ sym e.named))
one_difference labels pins (Unlabelled a) (Stranger b) d e = absurd (unlabelled_not labels pins d.place d.lack e.labelled)
one_difference labels pins (Unlabelled a) (Open b c) d (inl e) = absurd (unlabelled_not labels pins d.place d.lack e.paired.labelled)
one_difference labels pins (Unlabelled a) (Open b c) d (inr e) = absurd (unlabelled_not labels pins d.place d.lack e.paired.labelled)
one_difference labels pins (Unlabelled a) (Short b c) d e = absurd (unlabelled_not labels pins d.place d.lack e.paired.labelled)
one_difference labels pins (Stranger a) (Unlabelled b) d e = absurd (unlabelled_not labels pins e.place e.lack d.labelled)
one_difference labels pins (Stranger a) (Stranger b) d e =
    ap Stranger (d.named ∙ (ap name_of_label (one_first (IsStranger pins) labels d.place e.place d.stranger.label e.stranger.label d.stranger.first e.stranger.first) ∙ sym e.named))
one_difference labels pins (Stranger a) (Open b c) d (inl e) = absurd (stranger_not labels pins d.place d.stranger e.paired.placed)
one_difference labels pins (Stranger a) (Open b c) d (inr e) = absurd (stranger_not labels pins d.place d.stranger e.paired.placed)
one_difference labels pins (Stranger a) (Short b c) d e = absurd (stranger_not labels pins d.place d.stranger e.paired.placed)
one_difference labels pins (Open a b) (Unlabelled c) (inl d) e = absurd (unlabelled_not labels pins e.place e.lack d.paired.labelled)
one_difference labels pins (Open a b) (Unlabelled c) (inr d) e = absurd (unlabelled_not labels pins e.place e.lack d.paired.labelled)
one_difference labels pins (Open a b) (Stranger c) (inl d) e = absurd (stranger_not labels pins e.place e.stranger d.paired.placed)
one_difference labels pins (Open a b) (Stranger c) (inr d) e = absurd (stranger_not labels pins e.place e.stranger d.paired.placed)
one_difference labels pins (Open a b) (Open a' b') (inl d) (inl e) = let one = one_torn labels pins a b a' b' d e in ap (λ (n : PinName). Open n b) one.first ∙ ap (Open a') one.second
one_difference labels pins (Open a b) (Open a' b') (inl d) (inr e) = absurd (torn_or_wrong (AreOpen labels) labels pins d.place e.earlier e.place (open_denies labels) d.torn e.pair)
one_difference labels pins (Open a b) (Open a' b') (inr d) (inl e) = absurd (torn_or_wrong (AreOpen labels) labels pins e.place d.earlier d.place (open_denies labels) e.torn d.pair)
one_difference labels pins (Open a b) (Open a' b') (inr d) (inr e) =
    let one = one_wrong (AreOpen labels) labels pins a b a' b' (open_denies labels) d e in ap (λ (n : PinName). Open n b) one.first ∙ ap (Open a') one.second
one_difference labels pins (Open a b) (Short a' b') (inl d) e = absurd (torn_or_wrong (AreShort labels) labels pins d.place e.earlier e.place (short_denies labels) d.torn e.pair)
one_difference labels pins (Open a b) (Short a' b') (inr d) e = absurd (open_or_short labels pins a b a' b' d e)
one_difference labels pins (Short a b) (Unlabelled c) d e = absurd (unlabelled_not labels pins e.place e.lack d.paired.labelled)
one_difference labels pins (Short a b) (Stranger c) d e = absurd (stranger_not labels pins e.place e.stranger d.paired.placed)
one_difference labels pins (Short a b) (Open a' b') d (inl e) = absurd (torn_or_wrong (AreShort labels) labels pins e.place d.earlier d.place (short_denies labels) e.torn d.pair)
one_difference labels pins (Short a b) (Open a' b') d (inr e) = absurd (open_or_short labels pins a' b' a b e d)
one_difference labels pins (Short a b) (Short a' b') d e =
    let one = one_wrong (AreShort labels) labels pins a b a' b' (short_denies labels) d e in ap (λ (n : PinName). Short n b) one.first ∙ ap (Short a') one.second
