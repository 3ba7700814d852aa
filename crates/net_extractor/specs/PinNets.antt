-- The nets that the pins have, by the rows and by their labels.
use Rattle.std.specs.Prelude.{◌≡◌, ◌≢◌, ℕ, false, List, length, slice_get, Some}
use Rattle.or_geom.specs.Gathering.{SomeHas}
use Rattle.netlist.specs.declared.rows.RowPin.{RowPin}
use Rattle.net_extractor.specs.PlainNetLabel.{PlainNetLabel}
use Rattle.net_extractor.specs.declared.pins.PinNet.{PinNet}
use Rattle.net_extractor.specs.declared.pins.PinNets.{PinNets}
use Rattle.net_extractor.specs.declared.pins.PinNets.TheVariants.{Unlabelled, All}
use Rattle.net_extractor.specs.Difference.{IsLabelOf, HasNet}
use Rattle.net_extractor.specs.FirstDifference.{IsUnlabelledAt}

-- a bound label of the pin is on another net
pub record IsElsewhere (pin : RowPin) (net : ℕ) (label : PlainNetLabel) : Type 0 where
  pub of : IsLabelOf pin label
  pub other : ℕ
  pub on : label.net ≡ Some other
  pub differ : other ≢ net

-- the pin's number in the rows, and the net of one of its bound labels; where it isn't marked as mixed none is on another
pub record IsPinNet (labels : List PlainNetLabel) (pin : RowPin) (net : PinNet) : Type 0 where
  pub rows : net.rows ≡ pin.net
  pub layout : HasNet labels pin net.layout
  pub whole : net.mixed ≡ false → SomeHas (IsElsewhere pin net.layout) labels → ⊥

-- one for each pin
pub record ArePinNets (labels : List PlainNetLabel) (pins : List RowPin) (nets : List PinNet) : Type 0 where
  pub sized : length nets ≡ length pins
  pub each : (place : ℕ) (pin : RowPin) (net : PinNet) → slice_get pins place ≡ Some pin → slice_get nets place ≡ Some net → IsPinNet labels pin net

-- the nets of all pins, or the place of the first that has no bound label
abbrev pub IsPinNets : List PlainNetLabel → List RowPin → PinNets → Type 0
IsPinNets labels pins (Unlabelled place) = IsUnlabelledAt labels pins place
IsPinNets labels pins (All nets) = ArePinNets labels pins nets.items
