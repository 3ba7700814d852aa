-- Strangers among labels, found one by one.
use Rattle.std.proofs.Common.{◌≡◌, ℕ, ◌+◌, ◌<◌, ◌≤◌, true, nat_eq, List, [], length, get_or, map, Some, sym, ap, subst, ◌∙◌, arith}
use Rattle.std.specs.Prelude.{slice_get}
use Rattle.std.proofs.lemmas.Bool.{eqb-true}
use Rattle.std.proofs.lemmas.List.{nil_from_length}
use Rattle.std.proofs.lemmas.Option.{slice_get_within, slice_get-get_or}
use Rattle.or_geom.specs.Gathering.{SomeHas}
use Rattle.or_geom.proofs.GatheringLaws.{some_has, who_has}
use Rattle.netlist.specs.declared.rows.RowPin.{RowPin}
use Rattle.net_extractor.specs.declared.label.NetLabel.{NetLabel}
use Rattle.net_extractor.specs.PlainNets.{plain_net}
use Rattle.label_binding.specs.LowerCase.{in_lower_case}
use Rattle.net_extractor.specs.Difference.{IsPlacedBy, IsStranger}
use Rattle.net_extractor.specs.FirstDifference.{AreNoStrangers, IsStrangerAt}
use Rattle.net_extractor.proofs.MappedLaws.{mapped_at, unmapped_at}
use Rattle.label_binding.proofs.PlaceLaws.{each_more}

-- no label before the place is a stranger
abbrev pub AreNoneBefore : List NetLabel → List RowPin → ℕ → Type 0
AreNoneBefore entries pins place = (k : ℕ) (e : NetLabel) → k < place → slice_get entries k ≡ Some e → IsStranger pins (plain_net e) → ⊥

pub stranger_here : (entries : List NetLabel) (pins : List RowPin) (place : ℕ) (d : NetLabel) (path lower : List ℕ) → place < length entries → path ≡ (plain_net (get_or entries place d)).path → lower ≡ in_lower_case path
    → (path ≡ [] → ⊥) → (SomeHas (IsPlacedBy lower) pins → ⊥) → AreNoneBefore entries pins place → IsStrangerAt (map plain_net entries) pins place
stranger_here entries pins place d path lower lt is low some nowhere before = record {
  label = plain_net (get_or entries place d);
  first = record {
    here = mapped_at plain_net entries place (get_or entries place d) (slice_get-get_or entries place d lt);
    has = record {
      inner = λ e. some (is ∙ e);
      nowhere = λ pin h p. nowhere (some_has (IsPlacedBy lower) pins pin h (subst (λ (t : List ℕ). IsPlacedBy t pin) (sym (low ∙ ap in_lower_case is)) p));
    };
    before = λ k label less there s.
        let e = unmapped_at plain_net entries k label there in
        before k e.0 less e.1 (subst (IsStranger pins) (sym e.2) s);
  };
}

pub none_more : (entries : List NetLabel) (pins : List RowPin) (place : ℕ) (d : NetLabel) (path lower : List ℕ) → place < length entries → path ≡ (plain_net (get_or entries place d)).path → lower ≡ in_lower_case path
    → SomeHas (IsPlacedBy lower) pins → AreNoneBefore entries pins place → AreNoneBefore entries pins (place + 1)
none_more entries pins place d path lower lt is low placed before =
    each_more (λ k (e : NetLabel). IsStranger pins (plain_net e) → ⊥) entries place (get_or entries place d) (slice_get-get_or entries place d lt)
    (λ s.
    let w = who_has (IsPlacedBy lower) pins placed in
    s.nowhere w.0 w.1 (subst (λ (t : List ℕ). IsPlacedBy t w.0) (low ∙ ap in_lower_case is) w.2))
    before

-- a label with an empty path is none
pub none_more_empty : (entries : List NetLabel) (pins : List RowPin) (place : ℕ) (d : NetLabel) (path : List ℕ) → place < length entries → path ≡ (plain_net (get_or entries place d)).path → true ≡ nat_eq (length path) 0
    → AreNoneBefore entries pins place → AreNoneBefore entries pins (place + 1)
none_more_empty entries pins place d path lt is test before =
    each_more (λ k (e : NetLabel). IsStranger pins (plain_net e) → ⊥) entries place (get_or entries place d) (slice_get-get_or entries place d lt)
    (λ s. s.inner (sym is ∙ nil_from_length path (eqb-true (length path) 0 (sym test))))
    before

pub none_all : (entries : List NetLabel) (pins : List RowPin) (place : ℕ) → length entries ≤ place → AreNoneBefore entries pins place → AreNoStrangers (map plain_net entries) pins
none_all entries pins place le before k label there s =
    let e = unmapped_at plain_net entries k label there in
    let lt = slice_get_within entries k e.0 e.1 in
    before k e.0 (omega (arith, lt, le)) e.1 (subst (IsStranger pins) (sym e.2) s)
