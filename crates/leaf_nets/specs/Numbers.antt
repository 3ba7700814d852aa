-- The nets of a cell's pins, told by the numbers of nets.
use Rattle.std.specs.Prelude.{◌≡◌, ◌≢◌, ◌⊎◌, ◌↔◌, ℕ, ◌<◌, List, Contains, Option, Some, length, slice_get, MatchOption}
use Rattle.or_geom.specs.declared.shape.Shape.{Shape}
use Rattle.or_geom.specs.Gathering.{SomeHas}
use Rattle.tech_rules.specs.declared.tech.Connect.{Connect}
use Rattle.element_drawing.specs.PlainLabel.{PlainLabel}
use Rattle.label_binding.specs.Binding.{Binds, BindsNone}
use Rattle.label_binding.specs.BoundPlaces.{label_anchor}
use Rattle.leaf_shapes.specs.Candidates.{IsLabelOfPin}
use Rattle.cell_hierarchy.specs.Plain.{FlatLists}
use Rattle.leaf_nets.specs.Loose.{IsJoint}
use Rattle.leaf_nets.specs.RightPins.{IsRightPin, ArePinsRightBefore, AreRightPins}
use Rattle.leaf_nets.specs.declared.pin.PinBinding.{PinBinding}
use Rattle.leaf_nets.specs.declared.pin.PinBinding.TheVariants.{Unlabelled, On, Wrong}
use Rattle.leaf_nets.specs.declared.pins.PinNumbers.{PinNumbers}
use Rattle.leaf_nets.specs.declared.pins.PinNumbers.TheVariants as pin_numbers

-- the shape stands in the list, and this is the number at its place
pub record HasNetNumber (shapes : List Shape) (nets : List ℕ) (shape : Shape) (number : ℕ) : Type 0 where
  pub place : ℕ
  pub there : slice_get shapes place ≡ Some shape
  pub is : slice_get nets place ≡ Some number

-- the label binds a shape of this number
pub record GivesNet (shapes : List Shape) (nets : List ℕ) (label : PlainLabel) (number : ℕ) : Type 0 where
  pub shape : Shape
  pub binds : Binds shapes (label_anchor label) shape
  pub has : HasNetNumber shapes nets shape number

abbrev pub IsNetNumberOf : List Shape → List ℕ → PlainLabel → Option ℕ → Type 0
IsNetNumberOf shapes nets label net = MatchOption net (BindsNone shapes (label_anchor label)) (GivesNet shapes nets label)

-- a label of the pin binds a shape of this number
pub record HasPinNet (shapes : List Shape) (nets : List ℕ) (labels : List PlainLabel) (pin : List ℕ) (number : ℕ) : Type 0 where
  pub label : PlainLabel
  pub listed : Contains labels label
  pub of : IsLabelOfPin pin label
  pub gives : GivesNet shapes nets label number

-- a label of the pin binds no shape
pub record HasUnbound (shapes : List Shape) (labels : List PlainLabel) (pin : List ℕ) : Type 0 where
  pub label : PlainLabel
  pub listed : Contains labels label
  pub of : IsLabelOfPin pin label
  pub none : BindsNone shapes (label_anchor label)

-- labels of the pin bind shapes of two numbers
pub record HasTwoNets (shapes : List Shape) (nets : List ℕ) (labels : List PlainLabel) (pin : List ℕ) : Type 0 where
  pub m : ℕ
  pub n : ℕ
  pub first : HasPinNet shapes nets labels pin m
  pub second : HasPinNet shapes nets labels pin n
  pub differ : m ≢ n

-- each label of the pin binds a shape of this number, and there is one
pub record IsOnNet (shapes : List Shape) (nets : List ℕ) (labels : List PlainLabel) (pin : List ℕ) (number : ℕ) : Type 0 where
  pub some : HasPinNet shapes nets labels pin number
  pub all : (label : PlainLabel) → Contains labels label → IsLabelOfPin pin label → GivesNet shapes nets label number

abbrev pub IsPinBinding : List Shape → List ℕ → List PlainLabel → List ℕ → PinBinding → Type 0
IsPinBinding shapes nets labels pin Unlabelled = (label : PlainLabel) → Contains labels label → IsLabelOfPin pin label → ⊥
IsPinBinding shapes nets labels pin (On number) = IsOnNet shapes nets labels pin number
IsPinBinding shapes nets labels pin Wrong = HasUnbound shapes labels pin ⊎ HasTwoNets shapes nets labels pin

-- one of the pins before this place is on the net of this number
pub record IsNetBefore (lists : FlatLists) (nets : List ℕ) (pins : List (List ℕ)) (count number : ℕ) : Type 0 where
  pub place : ℕ
  pub before : place < count
  pub pin : List ℕ
  pub there : slice_get pins place ≡ Some pin
  pub on : HasPinNet lists.shapes nets lists.labels pin number

-- exactly the numbers of the nets of the pins before this place
abbrev pub AreNetsBefore : FlatLists → List ℕ → List (List ℕ) → ℕ → List ℕ → Type 0
AreNetsBefore lists nets pins count numbers = (number : ℕ) → Contains numbers number ↔ IsNetBefore lists nets pins count number

-- the pin at this place is the first whose labels aren't right
pub record IsPinWrongAt (connections : List Connect) (lists : FlatLists) (pins : List (List ℕ)) (place : ℕ) : Type 0 where
  pub before : ArePinsRightBefore connections lists pins place
  pub pin : List ℕ
  pub here : slice_get pins place ≡ Some pin
  pub wrong : IsRightPin connections lists pins place pin → ⊥

-- all are right, and these are the numbers of their nets
pub record AreRightNets (connections : List Connect) (lists : FlatLists) (nets : List ℕ) (pins : List (List ℕ)) (numbers : List ℕ) : Type 0 where
  pub right : AreRightPins connections lists pins
  pub numbered : AreNetsBefore lists nets pins (length pins) numbers

abbrev pub ArePinNumbers : List Connect → FlatLists → List ℕ → List (List ℕ) → PinNumbers → Type 0
ArePinNumbers connections lists nets pins (pin_numbers.Wrong place) = IsPinWrongAt connections lists pins place
ArePinNumbers connections lists nets pins (pin_numbers.Right numbers) = AreRightNets connections lists nets pins numbers.items

-- a shape on a conductor or a cut whose number isn't one of these
pub record IsFreeShape (connections : List Connect) (shapes : List Shape) (nets numbers : List ℕ) (shape : Shape) : Type 0 where
  pub number : ℕ
  pub has : HasNetNumber shapes nets shape number
  pub on : SomeHas (IsJoint shape.layer) connections
  pub other : Contains numbers number → ⊥

abbrev pub AreFreeShapes : List Connect → List Shape → List ℕ → List ℕ → List Shape → Type 0
AreFreeShapes connections shapes nets numbers free = (shape : Shape) → Contains free shape ↔ IsFreeShape connections shapes nets numbers shape
