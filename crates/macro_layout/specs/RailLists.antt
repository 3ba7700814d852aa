-- The rails and taps of bank 0 as lists, as they are drawn in the bank's cell.
use Rattle.std.specs.Prelude.{◌≡◌, ◌⊎◌, ◌↔◌, ℕ, ℤ, pos, ◌-ℤ◌, List, Contains, slice_get, Some}
use Rattle.or_geom.specs.declared.shape.Shape.{Shape}
use Rattle.wire_drawing.specs.declared.route.Tap.{Tap}
use Rattle.tech_rules.specs.declared.tech.Wire.{Wire}
use Rattle.rail_bus.specs.Rails.{AreRails}
use Rattle.sram_netlist.specs.Organization.{Organization}
use Rattle.macro_layout.specs.LayoutKit.{LayoutKit}
use Rattle.macro_layout.specs.Places.{Floorplan}
use Rattle.macro_layout.specs.Wires.{IsTapAt, IsTapWire, IsRailWire}
use Rattle.macro_layout.specs.Stated.{IsShifted}

-- a listed tap of the rail at x
pub record HasTap (xs : List ℤ) (taps : List Tap) (x y end : ℤ) : Type 0 where
  pub tap : Tap
  pub listed : Contains taps tap
  pub at_x : slice_get xs tap.rail ≡ Some x
  pub at_y : tap.y ≡ y
  pub ends : tap.end ≡ end

-- The lists have the taps of bank 0, from the bank's lower edge, and no two rails at one place.
pub record AreRailLists (plan : Organization) (kit : LayoutKit) (wire : Wire) (tracks : ℕ) (floorplan : Floorplan) (xs : List ℤ) (listed : List Tap) : Type 0 where
  pub differ : (i j : ℕ) (x : ℤ) → slice_get xs i ≡ Some x → slice_get xs j ≡ Some x → i ≡ j
  pub taps : (x y end : ℤ) → HasTap xs listed x (y -ℤ floorplan.write_y) end ↔ IsTapAt plan kit wire tracks floorplan x y end

-- The wires of rails and taps are those that are drawn of the lists, moved.
abbrev pub RailsAreDrawn : Type 0
RailsAreDrawn = (plan : Organization) (kit : LayoutKit) (wire : Wire) (tracks : ℕ) (floorplan : Floorplan) (xs : List ℤ) (listed : List Tap) (shapes : List Shape)
    → AreRailLists plan kit wire tracks floorplan xs listed → AreRails (pos 0) xs listed wire shapes
    → (s t : Shape) → IsShifted (pos 0) (pos 0 -ℤ floorplan.write_y) s t → (IsTapWire plan kit wire tracks floorplan s ⊎ IsRailWire plan kit wire tracks floorplan s) ↔ Contains shapes t
