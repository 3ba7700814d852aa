-- The first difference of labels and rows.
use Rattle.std.specs.Prelude.{◌≡◌, ◌≢◌, ◌⊎◌, ℕ, ◌<◌, List, slice_get, Some}
use Rattle.netlist.specs.declared.rows.RowPin.{RowPin}
use Rattle.net_extractor.specs.PlainNetLabel.{PlainNetLabel}
use Rattle.net_extractor.specs.declared.difference.NetDiff.{NetDiff}
use Rattle.net_extractor.specs.declared.difference.NetDiff.TheVariants.{Unlabelled, Stranger, Open, Short}
use Rattle.net_extractor.specs.declared.difference.PinName.{PinName}
use Rattle.net_extractor.specs.Difference.{HasNet, IsLabelled, IsStranger, IsWhole, Agree}

-- the item has P and stands at this place, and none before it has P
pub record IsFirst {X : Type 0} (P : X → Type 0) (xs : List X) (place : ℕ) (x : X) : Type 0 where
  pub here : slice_get xs place ≡ Some x
  pub has : P x
  pub before : (earlier : ℕ) (y : X) → earlier < place → slice_get xs earlier ≡ Some y → P y → ⊥

-- the first pin without a bound label stands at this place
pub record IsUnlabelledAt (labels : List PlainNetLabel) (pins : List RowPin) (place : ℕ) : Type 0 where
  pub pin : RowPin
  pub first : IsFirst (λ (p : RowPin). IsLabelled labels p → ⊥) pins place pin

-- each pin has a bound label
abbrev pub AreLabelled : List PlainNetLabel → List RowPin → Type 0
AreLabelled labels pins = (place : ℕ) (pin : RowPin) → slice_get pins place ≡ Some pin → IsLabelled labels pin

-- the first stranger stands at this place
pub record IsStrangerAt (labels : List PlainNetLabel) (pins : List RowPin) (place : ℕ) : Type 0 where
  pub label : PlainNetLabel
  pub first : IsFirst (IsStranger pins) labels place label

-- no label is a stranger
abbrev pub AreNoStrangers : List PlainNetLabel → List RowPin → Type 0
AreNoStrangers labels pins = (place : ℕ) (label : PlainNetLabel) → slice_get labels place ≡ Some label → IsStranger pins label → ⊥

-- nothing is wrong with the pins before this place: each is on one net, and every two agree
pub record AreRightBefore (labels : List PlainNetLabel) (pins : List RowPin) (place : ℕ) : Type 0 where
  pub whole : (k : ℕ) (p : RowPin) → k < place → slice_get pins k ≡ Some p → IsWhole labels p
  pub agree : (j k : ℕ) (q p : RowPin) → j < k → k < place → slice_get pins j ≡ Some q → slice_get pins k ≡ Some p → Agree labels q p

-- the pin has labels on two nets
pub record IsTorn (labels : List PlainNetLabel) (pin : RowPin) : Type 0 where
  pub m : ℕ
  pub n : ℕ
  pub first : HasNet labels pin m
  pub second : HasNet labels pin n
  pub differ : m ≢ n

-- the rows have the pins on one net, and the layout has not
pub record AreOpen (labels : List PlainNetLabel) (q p : RowPin) : Type 0 where
  pub one : q.net ≡ p.net
  pub m : ℕ
  pub n : ℕ
  pub first : HasNet labels q m
  pub second : HasNet labels p n
  pub differ : m ≢ n

-- the layout has the pins on one net, and the rows have not
pub record AreShort (labels : List PlainNetLabel) (q p : RowPin) : Type 0 where
  pub differ : q.net ≢ p.net
  pub net : ℕ
  pub first : HasNet labels q net
  pub second : HasNet labels p net

-- the first pin with which something is wrong stands at this place, and has labels on two nets
pub record IsTornAt (labels : List PlainNetLabel) (pins : List RowPin) (place : ℕ) : Type 0 where
  pub right : AreRightBefore labels pins place
  pub pin : RowPin
  pub here : slice_get pins place ≡ Some pin
  pub torn : IsTorn labels pin

-- The first pin with which something is wrong stands at this place and is on one net, and the first before it with which it
-- does not agree stands at the earlier place.
pub record IsWrongAt (Wrong : RowPin → RowPin → Type 0) (labels : List PlainNetLabel) (pins : List RowPin) (earlier place : ℕ) : Type 0 where
  pub right : AreRightBefore labels pins place
  pub pin : RowPin
  pub here : slice_get pins place ≡ Some pin
  pub whole : IsWhole labels pin
  pub other : RowPin
  pub there : slice_get pins earlier ≡ Some other
  pub before : earlier < place
  pub agree : (k : ℕ) (q : RowPin) → k < earlier → slice_get pins k ≡ Some q → Agree labels q pin
  pub wrong : Wrong other pin

-- a pin's name
abbrev pub name_of_pin : RowPin → PinName
name_of_pin pin = record { path = pin.path; pin = pin.pin }

-- a label's name, as it stands
abbrev pub name_of_label : PlainNetLabel → PinName
name_of_label label = record { path = label.path; pin = label.name }

-- each pin has a bound label, and no label is a stranger
pub record ArePaired (labels : List PlainNetLabel) (pins : List RowPin) : Type 0 where
  pub labelled : AreLabelled labels pins
  pub placed : AreNoStrangers labels pins

-- the name of the first pin without a bound label
pub record FirstUnlabelled (labels : List PlainNetLabel) (pins : List RowPin) (name : PinName) : Type 0 where
  pub place : ℕ
  pub lack : IsUnlabelledAt labels pins place
  pub named : name ≡ name_of_pin lack.pin

-- each pin has a bound label, and this is the name of the first stranger
pub record FirstStranger (labels : List PlainNetLabel) (pins : List RowPin) (name : PinName) : Type 0 where
  pub labelled : AreLabelled labels pins
  pub place : ℕ
  pub stranger : IsStrangerAt labels pins place
  pub named : name ≡ name_of_label stranger.label

-- the name, twice, of the first pin with which something is wrong, which has labels on two nets
pub record FirstTorn (labels : List PlainNetLabel) (pins : List RowPin) (first second : PinName) : Type 0 where
  pub paired : ArePaired labels pins
  pub place : ℕ
  pub torn : IsTornAt labels pins place
  pub named : first ≡ name_of_pin torn.pin
  pub again : second ≡ name_of_pin torn.pin

-- the names of the first pin with which something is wrong, last, and of the first one before it that it does not agree with
pub record FirstWrong (Wrong : RowPin → RowPin → Type 0) (labels : List PlainNetLabel) (pins : List RowPin) (first second : PinName) : Type 0 where
  pub paired : ArePaired labels pins
  pub earlier : ℕ
  pub place : ℕ
  pub pair : IsWrongAt Wrong labels pins earlier place
  pub named : first ≡ name_of_pin pair.other
  pub then : second ≡ name_of_pin pair.pin

-- The first difference: the first pin without a bound label; where there is none, the first stranger; where there is none,
-- the first pin that has labels on two nets or does not agree with an earlier one.
abbrev pub IsFirstDifference : List PlainNetLabel → List RowPin → NetDiff → Type 0
IsFirstDifference labels pins (Unlabelled pin) = FirstUnlabelled labels pins pin
IsFirstDifference labels pins (Stranger pin) = FirstStranger labels pins pin
IsFirstDifference labels pins (Open first second) = FirstTorn labels pins first second ⊎ FirstWrong (AreOpen labels) labels pins first second
IsFirstDifference labels pins (Short first second) = FirstWrong (AreShort labels) labels pins first second
