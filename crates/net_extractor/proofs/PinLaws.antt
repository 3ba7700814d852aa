-- The nets of the pins, found one by one.
use Rattle.std.proofs.Common.{◌≡◌, ◌⊎◌, inl, inr, ℕ, ◌+◌, ◌<◌, List, [], ◌∷◌, ◌++◌, length, get_or, sym, ap, subst, ◌∙◌, arith, refl}
use Rattle.std.specs.Prelude.{slice_get, Option, None, Some, MatchOption}
use Rattle.std.proofs.lemmas.Bool.{cases_lt}
use Rattle.std.proofs.lemmas.List.{get_or_append_left, get_or_push, length_push}
use Rattle.std.proofs.lemmas.Option.{slice_get_within, slice_get_cases, get_or_from_slice_get, slice_get_read}
use Rattle.or_geom.proofs.ListLaws.{one_at}
use Rattle.netlist.specs.declared.rows.RowPin.{RowPin}
use Rattle.net_extractor.specs.PlainNetLabel.{PlainNetLabel}
use Rattle.net_extractor.specs.declared.pins.PinNet.{PinNet}
use Rattle.net_extractor.specs.Difference.{IsLabelOf, IsLabelled}
use Rattle.net_extractor.specs.FirstDifference.{IsUnlabelledAt, AreLabelled}
use Rattle.net_extractor.specs.PinNets.{IsPinNet, ArePinNets}

pub exists_at : {X : Type 0} (xs : List X) (i : ℕ) → i < length xs → (x : X) × (slice_get xs i ≡ Some x)
exists_at xs i lt = elim (slice_get_cases xs i).1 [
  | inl h ↦ (h.0, h.2)
  | inr past ↦ let le = past.0 in absurd (omega (arith, lt, le))
]

-- what stands in a list that grew stood there before, or is new
pub push_cases : {X : Type 0} (xs new : List X) (x : X) (k : ℕ) (y : X) → new ≡ xs ++ x ∷ [] → slice_get new k ≡ Some y → (slice_get xs k ≡ Some y) ⊎ ((length xs ≡ k) × (x ≡ y))
push_cases {X} xs new x k y grown there =
    let is : get_or (xs ++ x ∷ []) k y ≡ y = ap (λ (l : List X). get_or l k y) (sym grown) ∙ get_or_from_slice_get new k y y there in
    let within = slice_get_within new k y there in
    let longer = length_push xs x in
    let size = ap length grown in
    elim (cases_lt k (length xs)) [
      | inl lt ↦ inl (slice_get_read xs _ k y refl lt (sym (sym (get_or_append_left xs (x ∷ []) y k lt) ∙ is)))
      | inr ge ↦ let e : length xs ≡ k = omega (arith, within, longer, size, ge) in inr (e, sym (get_or_push xs x y k e) ∙ is)
    ]

-- the nets of the pins before a place
pub record ArePinNetsBefore (labels : List PlainNetLabel) (pins : List RowPin) (nets : List PinNet) (i : ℕ) : Type 0 where
  pub sized : length nets ≡ i
  pub each : (k : ℕ) (pin : RowPin) (net : PinNet) → slice_get pins k ≡ Some pin → slice_get nets k ≡ Some net → IsPinNet labels pin net

pub pins_more : (labels : List PlainNetLabel) (pins : List RowPin) (nets new : List PinNet) (i : ℕ) (pin : RowPin) (net : PinNet) → slice_get pins i ≡ Some pin → IsPinNet labels pin net → new ≡ nets ++ net ∷ []
    → ArePinNetsBefore labels pins nets i → ArePinNetsBefore labels pins new (i + 1)
pins_more labels pins nets new i pin net here is grown b = record {
  sized = let longer = length_push nets net in let size = ap length grown in let s = b.sized in omega (arith, longer, size, s);
  each = λ k p n at_p at_n. elim (push_cases nets new net k n grown at_n) [
    | inl old ↦ b.each k p n at_p old
    | inr fresh ↦
        let at_i : slice_get pins i ≡ Some p = subst (λ (j : ℕ). slice_get pins j ≡ Some p) (sym fresh.0 ∙ b.sized) at_p in
        subst (IsPinNet labels p) fresh.1 (subst (λ (q : RowPin). IsPinNet labels q net) (one_at pins i pin p here at_i) is)
  ];
}

-- the pins before the place have bound labels, and the one there has none
pub pins_lack : (labels : List PlainNetLabel) (pins : List RowPin) (nets : List PinNet) (i : ℕ) (pin : RowPin) → slice_get pins i ≡ Some pin → (IsLabelled labels pin → ⊥) → ArePinNetsBefore labels pins nets i → IsUnlabelledAt labels pins i
pins_lack labels pins nets i pin here lacks b = record {
  pin = pin;
  first = record {
    here = here;
    has = lacks;
    before = λ k p lt at_k not.
        let n = exists_at nets k (let s = b.sized in omega (arith, s, lt)) in
        not (record { net = n.0.layout; has = (b.each k p n.0 at_k n.1).layout });
  };
}

pub labelled_all : (labels : List PlainNetLabel) (pins : List RowPin) (nets : List PinNet) → ArePinNets labels pins nets → AreLabelled labels pins
labelled_all labels pins nets a place pin here =
    let n = exists_at nets place (let s = a.sized in let lt = slice_get_within pins place pin here in omega (arith, s, lt)) in
    record { net = n.0.layout; has = (a.each place pin n.0 here n.1).layout }

-- a label that gives a pin no net
abbrev pub GivesNone : RowPin → PlainNetLabel → Type 0
GivesNone pin label = IsLabelOf pin label → (n : ℕ) → label.net ≡ Some n → ⊥

-- what an option says that is none, or some
pub match_none : {X : Type 0} (P : Type 0) (Q : X → Type 0) (o : Option X) → MatchOption o P Q → ((x : X) → o ≡ Some x → ⊥) → P
match_none P Q None m none = m
match_none P Q (Some x) m none = absurd (none x refl)

pub match_some : {X : Type 0} (P : Type 0) (Q : X → Type 0) (o : Option X) (x : X) → MatchOption o P Q → o ≡ Some x → Q x
match_some P Q None x m is = absurd cc
match_some P Q (Some y) x m is = let same : y ≡ x = cc in subst Q same m
