-- The floorplans of macros are near the origin, and so are the wires that no router draws.
use Rattle.std.specs.Prelude.{◌^◌, ◌≤◌, ◌≤ℤ◌}
use Rattle.gds_library.specs.Writable.{IsText}
use Rattle.cell_roles.specs.declared.role.Role.{Role}
use Rattle.tech_rules.specs.declared.tech.Wire.{Wire}
use Rattle.sram_netlist.specs.Organization.{Organization, IsBuildable}
use Rattle.macro_layout.specs.LayoutKit.{LayoutKit}
use Rattle.macro_layout.specs.Places.{Floorplan}
use Rattle.macro_layout.specs.Floorplan.{Tracks, IsFloorplan}
use Rattle.macro_bounds.specs.Near.{IsLengthUpTo, IsSevenLayerWire}

-- each leaf cell's name can be written, and its sides are at most 65536
pub record IsSmallKit (kit : LayoutKit) : Type 0 where
  pub names : (r : Role) → IsText (kit.cell r)
  pub widths : (r : Role) → kit.width r ≤ 65536
  pub heights : (r : Role) → kit.height r ≤ 65536

-- the floorplan's numbers fit 32 bits with room for the cells, and no row stands below the write cells
pub record IsFloorplanWithin (floorplan : Floorplan) : Type 0 where
  pub logic_x : IsLengthUpTo (2 ^ 17) floorplan.logic_x
  pub row_x : IsLengthUpTo (2 ^ 23) floorplan.row_x
  pub bank_width : IsLengthUpTo (2 ^ 25) floorplan.bank_width
  pub write_y : IsLengthUpTo (2 ^ 30) floorplan.write_y
  pub sense_y : IsLengthUpTo (2 ^ 30) floorplan.sense_y
  pub column_y : IsLengthUpTo (2 ^ 30) floorplan.column_y
  pub array_y : IsLengthUpTo (2 ^ 30) floorplan.array_y
  pub precharge_y : IsLengthUpTo (2 ^ 30) floorplan.precharge_y
  pub to_sense : floorplan.write_y ≤ℤ floorplan.sense_y
  pub to_column : floorplan.write_y ≤ℤ floorplan.column_y
  pub to_array : floorplan.write_y ≤ℤ floorplan.array_y
  pub to_precharge : floorplan.write_y ≤ℤ floorplan.precharge_y

-- at most 4096 tracks in the main channel, and 2048 in the column channel
pub record AreFewTracks (tracks : Tracks) : Type 0 where
  pub main : tracks.main ≤ 4096
  pub column : tracks.column ≤ 2048

-- The floorplan of a macro with few tracks is near.
abbrev pub FloorplansAreNear : Type 0
FloorplansAreNear = (plan : Organization) (kit : LayoutKit) (wire : Wire) (tracks : Tracks) (floorplan : Floorplan) → IsBuildable plan → IsSmallKit kit → IsSevenLayerWire wire → AreFewTracks tracks → IsFloorplan plan kit wire tracks floorplan → IsFloorplanWithin floorplan
