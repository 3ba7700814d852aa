-- The highest tap of each rail, above a lower end.
use Rattle.std.specs.Prelude.{◌≡◌, ◌⊎◌, ℕ, ◌<◌, ℤ, ◌+ℤ◌, ◌≤ℤ◌, List, length, All, slice_get, slice_index, slice_index_or, Some}
use Rattle.or_geom.specs.declared.shape.Shape.{Shape}
use Rattle.wire_drawing.specs.declared.route.Tap.{Tap}
use Rattle.tech_rules.specs.declared.tech.Wire.{Wire}
use Rattle.wire_drawing.specs.Drawing.{IsBox}
use Rattle.rail_bus.specs.Rails.{IsTapOf}

-- the lower end or the y of a tap of the rail, and no tap of it is higher
pub record IsHighestAbove (low : ℤ) (taps : List Tap) (rail : ℕ) (y : ℤ) : Type 0 where
  pub above : low ≤ℤ y
  pub reached : (y ≡ low) ⊎ IsTapOf taps rail y
  pub highest : (other : ℤ) → IsTapOf taps rail other → other ≤ℤ y

-- one for each rail
pub record AreHighestAbove (low : ℤ) (rails : ℕ) (taps : List Tap) (highest : List ℤ) : Type 0 where
  pub each : length highest ≡ rails
  pub is : (rail : ℕ) → rail < rails → IsHighestAbove low taps rail (slice_index_or highest rail low)

-- all stand at the lower end or above it
abbrev pub AreFrom : ℤ → List ℤ → Type 0
AreFrom low = All (λ y. low ≤ℤ y)

-- the rail at a place, up to the upper edge of a wire at the y of that place
pub record IsRailTo (low : ℤ) (xs highest : List ℤ) (wire : Wire) (rail : ℕ) (shape : Shape) : Type 0 where
  pub x : ℤ
  pub at_x : slice_get xs rail ≡ Some x
  pub y : ℤ
  pub at_y : slice_get highest rail ≡ Some y
  pub drawn : IsBox (slice_index wire.metals 3) x low (x +ℤ wire.width) (y +ℤ wire.width) shape

-- one of the rails at places below n
abbrev pub IsRailBelow : ℤ → List ℤ → List ℤ → Wire → ℕ → Shape → Type 0
IsRailBelow low xs highest wire n shape = (rail : ℕ) × (rail < n) × IsRailTo low xs highest wire rail shape
