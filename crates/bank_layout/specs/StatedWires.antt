-- A bank's wires are the stated ones.
use Rattle.std.specs.Prelude.{◌↔◌, ℕ, List, Contains}
use Rattle.or_geom.specs.declared.shape.Shape.{Shape}
use Rattle.tech_rules.specs.declared.tech.Wire.{Wire}
use Rattle.sram_netlist.specs.Organization.{Organization}
use Rattle.macro_layout.specs.LayoutKit.{LayoutKit}
use Rattle.macro_layout.specs.Places.{Floorplan}
use Rattle.macro_layout.specs.Stated.{IsWireOfCell}

-- the list has exactly the wires of the bank's cell, where the column channel has so many tracks
abbrev pub AreWiresOfCell : Organization → LayoutKit → Wire → ℕ → Floorplan → List Shape → Type 0
AreWiresOfCell plan kit wire tracks floorplan shapes = (main : ℕ) (s : Shape) → Contains shapes s ↔ IsWireOfCell plan kit wire (record { main = main; column = tracks }) floorplan s
