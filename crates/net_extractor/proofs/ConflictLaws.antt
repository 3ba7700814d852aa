-- Whether pins agree, by their nets.
use Rattle.std.proofs.Common.{◌≡◌, inl, inr, ℕ, ◌+◌, ◌<◌, ◌≤◌, List, sym, subst, ◌∙◌, arith}
use Rattle.std.specs.Prelude.{slice_get, Some}
use Rattle.std.proofs.lemmas.Bool.{cases_lt, cases_eq}
use Rattle.std.proofs.lemmas.Option.{slice_get_within}
use Rattle.or_geom.proofs.ListLaws.{one_at}
use Rattle.or_geom.specs.Gathering.{SomeHas}
use Rattle.or_geom.proofs.GatheringLaws.{some_has, who_has}
use Rattle.netlist.specs.declared.rows.RowPin.{RowPin}
use Rattle.net_extractor.specs.PlainNetLabel.{PlainNetLabel}
use Rattle.net_extractor.specs.declared.pins.PinNet.{PinNet}
use Rattle.net_extractor.specs.Difference.{HasNet, IsWhole, Agree}
use Rattle.net_extractor.specs.FirstDifference.{AreRightBefore, IsTorn, AreOpen, AreShort, IsWrongAt}
use Rattle.net_extractor.specs.PinNets.{IsPinNet, ArePinNets, IsElsewhere}
use Rattle.net_extractor.specs.Conflicts.{AgreeOn, AgreeBefore, IsFirstOdd}
use Rattle.net_extractor.proofs.PinLaws.{exists_at}

-- a pin none of whose labels is elsewhere is on one net
whole_from : (labels : List PlainNetLabel) (pin : RowPin) (net : PinNet) → (SomeHas (IsElsewhere pin net.layout) labels → ⊥) → (m : ℕ) → HasNet labels pin m → m ≡ net.layout
whole_from labels pin net none m h = elim (cases_eq m net.layout) [
  | inl e ↦ e
  | inr ne ↦ absurd (none (some_has (IsElsewhere pin net.layout) labels h.label h.listed (record { of = h.of; other = m; on = h.on; differ = ne })))
]

pub is_whole : (labels : List PlainNetLabel) (pin : RowPin) (net : PinNet) → (SomeHas (IsElsewhere pin net.layout) labels → ⊥) → IsWhole labels pin
is_whole labels pin net none m n a b = whole_from labels pin net none m a ∙ sym (whole_from labels pin net none n b)

pub is_torn : (labels : List PlainNetLabel) (pin : RowPin) (net : PinNet) → IsPinNet labels pin net → SomeHas (IsElsewhere pin net.layout) labels → IsTorn labels pin
is_torn labels pin net is some =
    let w = who_has (IsElsewhere pin net.layout) labels some in
    record { m = w.2.other; n = net.layout; first = record { label = w.0; listed = w.1; of = w.2.of; on = w.2.on }; second = is.layout; differ = w.2.differ }

-- pins that agree by their nets agree
pub pins_agree : (labels : List PlainNetLabel) (q p : RowPin) (a b : PinNet) → IsPinNet labels q a → IsPinNet labels p b → IsWhole labels q → IsWhole labels p → AgreeOn a b → Agree labels q p
pins_agree labels q p a b is_a is_b whole_q whole_p both m n has_m has_n =
    let em : m ≡ a.layout = whole_q m a.layout has_m is_a.layout in
    let en : n ≡ b.layout = whole_p n b.layout has_n is_b.layout in (
      λ e. sym is_a.rows ∙ (both.0 (sym em ∙ (e ∙ en)) ∙ is_b.rows),
      λ e. em ∙ (both.1 (is_a.rows ∙ (e ∙ sym is_b.rows)) ∙ sym en),
    )

pub are_open : (labels : List PlainNetLabel) (q p : RowPin) (a b : PinNet) → IsPinNet labels q a → IsPinNet labels p b → (AgreeOn a b → ⊥) → a.rows ≡ b.rows → AreOpen labels q p
are_open labels q p a b is_a is_b odd one = record {
  one = sym is_a.rows ∙ (one ∙ is_b.rows);
  m = a.layout;
  n = b.layout;
  first = is_a.layout;
  second = is_b.layout;
  differ = λ e. odd (λ _. one, λ _. e);
}

pub are_short : (labels : List PlainNetLabel) (q p : RowPin) (a b : PinNet) → IsPinNet labels q a → IsPinNet labels p b → (AgreeOn a b → ⊥) → (a.rows ≡ b.rows → ⊥) → AreShort labels q p
are_short labels q p a b is_a is_b odd differ =
    let one : a.layout ≡ b.layout = elim (cases_eq a.layout b.layout) [ inl e ↦ e | inr ne ↦ absurd (odd (λ e. absurd (ne e), λ e. absurd (differ e))) ] in
    record {
      differ = λ e. differ (is_a.rows ∙ (e ∙ sym is_b.rows));
      net = a.layout;
      first = is_a.layout;
      second = subst (HasNet labels p) (sym one) is_b.layout;
    }

-- all pins before the place agree with the one there
agree_before : (labels : List PlainNetLabel) (pins : List RowPin) (nets : List PinNet) (limit place : ℕ) (pin : RowPin) (net : PinNet) → ArePinNets labels pins nets → AreRightBefore labels pins place → limit ≤ place
    → slice_get pins place ≡ Some pin → slice_get nets place ≡ Some net → IsWhole labels pin → AgreeBefore nets limit place → (k : ℕ) (q : RowPin) → k < limit → slice_get pins k ≡ Some q → Agree labels q pin
agree_before labels pins nets limit place pin net all right le here at_net whole agree k q below there =
    let s = all.sized in
    let lt = slice_get_within nets place net at_net in
    let n = exists_at nets k (omega (arith, below, le, lt)) in
    pins_agree labels q pin n.0 net (all.each k q n.0 there n.1) (all.each place pin net here at_net) (right.whole k q (omega (arith, below, le)) there) whole (agree k n.0 net below n.1 at_net)

pub right_more : (labels : List PlainNetLabel) (pins : List RowPin) (nets : List PinNet) (place : ℕ) (pin : RowPin) (net : PinNet) → ArePinNets labels pins nets → slice_get pins place ≡ Some pin → slice_get nets place ≡ Some net
    → (SomeHas (IsElsewhere pin net.layout) labels → ⊥) → AgreeBefore nets place place → AreRightBefore labels pins place → AreRightBefore labels pins (place + 1)
right_more labels pins nets place pin net all here at_net none agree right =
    let whole = is_whole labels pin net none in
    record {
      whole = λ k p lt there. elim (cases_lt k place) [
        | inl earlier ↦ right.whole k p earlier there
        | inr ge ↦
            let e : k ≡ place = omega (arith, lt, ge) in
            subst (IsWhole labels) (one_at pins place pin p here (subst (λ (j : ℕ). slice_get pins j ≡ Some p) e there)) whole
      ];
      agree = λ j k q p before lt at_j at_k. elim (cases_lt k place) [
        | inl earlier ↦ right.agree j k q p before earlier at_j at_k
        | inr ge ↦
            let e : k ≡ place = omega (arith, lt, ge) in
            let same = one_at pins place pin p here (subst (λ (i : ℕ). slice_get pins i ≡ Some p) e at_k) in
            subst (Agree labels q) same (agree_before labels pins nets place place pin net all right (omega arith) here at_net whole agree j q (omega (arith, before, e)) at_j)
      ];
    }

pub wrong_at : (Wrong : RowPin → RowPin → Type 0) (labels : List PlainNetLabel) (pins : List RowPin) (nets : List PinNet) (earlier place : ℕ) (other pin : RowPin) (net : PinNet) → ArePinNets labels pins nets → slice_get pins place ≡ Some pin
    → slice_get nets place ≡ Some net → slice_get pins earlier ≡ Some other → (SomeHas (IsElsewhere pin net.layout) labels → ⊥) → IsFirstOdd nets place earlier → AreRightBefore labels pins place → Wrong other pin → IsWrongAt Wrong labels pins earlier place
wrong_at Wrong labels pins nets earlier place other pin net all here at_net there none odd right wrong =
    let whole = is_whole labels pin net none in
    record {
      right = right;
      pin = pin;
      here = here;
      whole = whole;
      other = other;
      there = there;
      before = odd.below;
      agree = agree_before labels pins nets earlier place pin net all right (let lt = odd.below in omega (arith, lt)) here at_net whole odd.before;
      wrong = wrong;
    }
