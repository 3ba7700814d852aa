-- The first pin with which something is wrong, by places.
use Rattle.std.specs.Prelude.{◌≡◌, ◌↔◌, ◌⊎◌, ℕ, ◌<◌, List, length, slice_get, Some}
use Rattle.netlist.specs.declared.rows.RowPin.{RowPin}
use Rattle.net_extractor.specs.PlainNetLabel.{PlainNetLabel}
use Rattle.net_extractor.specs.declared.pins.PinNet.{PinNet}
use Rattle.net_extractor.specs.declared.conflicts.Conflict.{Conflict}
use Rattle.net_extractor.specs.declared.conflicts.Conflict.TheVariants.{Open, Short}
use Rattle.net_extractor.specs.declared.difference.NetDiff.{NetDiff}
use Rattle.net_extractor.specs.declared.difference.NetDiff.TheVariants as diff
use Rattle.net_extractor.specs.declared.difference.PinName.{PinName}
use Rattle.net_extractor.specs.FirstDifference.{AreOpen, AreShort, IsTornAt, IsWrongAt, name_of_pin}

-- on one net in the layout exactly where they are in the rows
abbrev pub AgreeOn : PinNet → PinNet → Type 0
AgreeOn a b = (a.layout ≡ b.layout) ↔ (a.rows ≡ b.rows)

-- those before the first place agree with the one at the second
abbrev pub AgreeBefore : List PinNet → ℕ → ℕ → Type 0
AgreeBefore nets place at' = (k : ℕ) (a b : PinNet) → k < place → slice_get nets k ≡ Some a → slice_get nets at' ≡ Some b → AgreeOn a b

-- the first that does not agree with the one at the place
pub record IsFirstOdd (nets : List PinNet) (place earlier : ℕ) : Type 0 where
  pub below : earlier < place
  pub before : AgreeBefore nets earlier place
  pub odd : (a b : PinNet) → slice_get nets earlier ≡ Some a → slice_get nets place ≡ Some b → AgreeOn a b → ⊥

-- the first pin with which something is wrong, twice where it has labels on two nets, else after the one that it is wrong with
abbrev pub IsConflict : List PlainNetLabel → List RowPin → Conflict → Type 0
IsConflict labels pins (Open first second) = ((first ≡ second) × IsTornAt labels pins second) ⊎ IsWrongAt (AreOpen labels) labels pins first second
IsConflict labels pins (Short first second) = IsWrongAt (AreShort labels) labels pins first second

-- the conflict's places are those of pins
abbrev pub AreConflictPins : List RowPin → Conflict → Type 0
AreConflictPins pins (Open first second) = (first < length pins) × (second < length pins)
AreConflictPins pins (Short first second) = (first < length pins) × (second < length pins)

-- the names of the pins at two places
pub record ArePinNames (pins : List RowPin) (i j : ℕ) (first second : PinName) : Type 0 where
  pub q : RowPin
  pub p : RowPin
  pub at_q : slice_get pins i ≡ Some q
  pub at_p : slice_get pins j ≡ Some p
  pub first_is : first ≡ name_of_pin q
  pub second_is : second ≡ name_of_pin p

-- the conflict as a difference
abbrev pub IsDifferenceOf : List RowPin → Conflict → NetDiff → Type 0
IsDifferenceOf pins (Open i j) (diff.Unlabelled pin) = ⊥
IsDifferenceOf pins (Open i j) (diff.Stranger pin) = ⊥
IsDifferenceOf pins (Open i j) (diff.Open first second) = ArePinNames pins i j first second
IsDifferenceOf pins (Open i j) (diff.Short first second) = ⊥
IsDifferenceOf pins (Short i j) (diff.Unlabelled pin) = ⊥
IsDifferenceOf pins (Short i j) (diff.Stranger pin) = ⊥
IsDifferenceOf pins (Short i j) (diff.Open first second) = ⊥
IsDifferenceOf pins (Short i j) (diff.Short first second) = ArePinNames pins i j first second
