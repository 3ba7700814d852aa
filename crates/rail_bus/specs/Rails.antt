-- The shapes of vertical rails, and of the wires that tap them.
use Rattle.std.specs.Prelude.{◌≡◌, ◌⊎◌, ℕ, ◌<◌, ℤ, ◌+ℤ◌, ◌≤ℤ◌, List, map, length, All, Contains, slice_get, slice_index, Some}
use Rattle.or_geom.specs.declared.shape.Shape.{Shape}
use Rattle.or_geom.specs.Distance.{IsNear}
use Rattle.or_geom.specs.Gathering.{SomeGives}
use Rattle.wire_drawing.specs.declared.route.RouteFault.{RouteFault}
use Rattle.wire_drawing.specs.declared.route.RouteFault.TheVariants.{Close, TapsClose, Memory}
use Rattle.wire_drawing.specs.declared.route.Tap.{Tap}
use Rattle.tech_rules.specs.declared.tech.Wire.{Wire}
use Rattle.wire_drawing.specs.Drawing.{IsBox, IsVia}
use Rattle.wire_drawing.specs.Spacing.{AreFirstClose}

-- the places of the taps in y
abbrev pub tap_ys : List Tap → List ℤ
tap_ys = map (λ tap. tap.y)

-- coordinates within 2^40
pub record IsNearTap (tap : Tap) : Type 0 where
  pub y : IsNear tap.y
  pub end : IsNear tap.end

abbrev pub AreNearTaps : List Tap → Type 0
AreNearTaps = All IsNearTap

-- each tap is one of a rail that is there
abbrev pub AreOfRails : List ℤ → List Tap → Type 0
AreOfRails xs = All (λ tap. tap.rail < length xs)

-- each tap ends at its rail's right edge or further right
abbrev pub EndBeyondRails : List ℤ → List Tap → Wire → Type 0
EndBeyondRails xs taps wire = (tap : Tap) (x : ℤ) → Contains taps tap → slice_get xs tap.rail ≡ Some x → (x +ℤ wire.width) ≤ℤ tap.end

-- a tap of the rail
pub record IsTapOf (taps : List Tap) (rail : ℕ) (y : ℤ) : Type 0 where
  pub tap : Tap
  pub listed : Contains taps tap
  pub of_rail : tap.rail ≡ rail
  pub at_y : tap.y ≡ y

-- each rail has a tap at the rails' lower end or above it
abbrev pub AreTapped : ℤ → List ℤ → List Tap → Type 0
AreTapped low xs taps = (rail : ℕ) → rail < length xs → (y : ℤ) × IsTapOf taps rail y × (low ≤ℤ y)

-- the wire from the tap's rail to its end on the third metal, or the cut to the fourth metal
pub record IsOfTap (xs : List ℤ) (wire : Wire) (tap : Tap) (shape : Shape) : Type 0 where
  pub x : ℤ
  pub at_x : slice_get xs tap.rail ≡ Some x
  pub kind : IsBox (slice_index wire.metals 2) x tap.y tap.end (tap.y +ℤ wire.width) shape ⊎ IsVia wire 2 x tap.y shape

-- the highest of the rail's taps
pub record IsHighest (taps : List Tap) (rail : ℕ) (y : ℤ) : Type 0 where
  pub tap : IsTapOf taps rail y
  pub highest : (other : ℤ) → IsTapOf taps rail other → other ≤ℤ y

-- the rail on the fourth metal, from the lower end to the upper edge of its highest tap
pub record IsRail (low : ℤ) (xs : List ℤ) (taps : List Tap) (wire : Wire) (rail : ℕ) (shape : Shape) : Type 0 where
  pub x : ℤ
  pub at_x : slice_get xs rail ≡ Some x
  pub y : ℤ
  pub highest : IsHighest taps rail y
  pub drawn : IsBox (slice_index wire.metals 3) x low (x +ℤ wire.width) (y +ℤ wire.width) shape

-- a rail, or a shape of a tap
abbrev pub IsRailShape : ℤ → List ℤ → List Tap → Wire → Shape → Type 0
IsRailShape low xs taps wire shape = SomeGives (IsOfTap xs wire) taps shape ⊎ ((rail : ℕ) × IsRail low xs taps wire rail shape)

-- the list has all of these shapes and no others
pub record AreRails (low : ℤ) (xs : List ℤ) (taps : List Tap) (wire : Wire) (shapes : List Shape) : Type 0 where
  pub all : (shape : Shape) → IsRailShape low xs taps wire shape → Contains shapes shape
  pub only : (shape : Shape) → Contains shapes shape → IsRailShape low xs taps wire shape

-- the fault names the lowest two taps that are nearer to each other than the pitch, or is out of memory
abbrev pub IsTapFault : ℤ → List Tap → RouteFault → Type 0
IsTapFault pitch taps (TapsClose first second) = AreFirstClose pitch (tap_ys taps) first second
IsTapFault pitch taps Memory = Unit {0}
IsTapFault pitch taps (Close side first second) = ⊥
