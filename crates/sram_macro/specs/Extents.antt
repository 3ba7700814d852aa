-- The ends of a macro.
use Rattle.std.specs.Prelude.{◌≡◌, ◌+◌, ◌^◌, pos, ◌+ℤ◌, ◌*ℤ◌}
use Rattle.tech_rules.specs.declared.tech.Wire.{Wire}
use Rattle.wire_drawing.specs.Drawing.{pitch}
use Rattle.sram_netlist.specs.Organization.{Organization}
use Rattle.macro_layout.specs.LayoutKit.{LayoutKit}
use Rattle.macro_layout.specs.Places.{Floorplan}
use Rattle.macro_layout.specs.Floorplan.{upper_y}
use Rattle.macro_layout.specs.Wires.{trunk_x, ground_x}
use Rattle.floorplan.specs.FloorplanNumbers.{IsUpTo}
use Rattle.sram_macro.specs.declared.extents.Extents.{Extents}

pub record AreExtents (plan : Organization) (kit : LayoutKit) (wire : Wire) (floorplan : Floorplan) (ends : Extents) : Type 0 where
  pub power_x : ends.power_x ≡ trunk_x plan kit wire floorplan
  pub ground_x : ends.ground_x ≡ ground_x plan kit wire floorplan
  pub width : ends.width ≡ trunk_x plan kit wire floorplan +ℤ (pos 2 *ℤ pitch wire)
  pub height : ends.height ≡ upper_y kit floorplan

-- all are at most 2^30 and a little
pub record AreNearExtents (ends : Extents) : Type 0 where
  pub power_x : IsUpTo (2 ^ 30) ends.power_x
  pub ground_x : IsUpTo (2 ^ 30) ends.ground_x
  pub width : IsUpTo (2 ^ 30) ends.width
  pub height : IsUpTo (2 ^ 30 + 65536) ends.height
