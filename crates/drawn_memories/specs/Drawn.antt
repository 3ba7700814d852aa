-- A macro that was assembled is a drawn memory.
use Rattle.std.specs.Prelude.{ℕ, ℤ, List}
use Rattle.cell_roles.specs.declared.role.Role.TheVariants.{Bitcell}
use Rattle.cell_hierarchy.specs.FlatLists.{AreFlatLists}
use Rattle.cell_hierarchy.specs.Plain.{FlatLists}
use Rattle.tech_rules.specs.declared.tech.Wire.{Wire}
use Rattle.wire_drawing.specs.Drawing.{pitch}
use Rattle.channel_router.specs.Tracks.{IsLowest}
use Rattle.sram_netlist.specs.Organization.{Organization, IsWritten}
use Rattle.sram_netlist.specs.BitCells.{Alike}
use Rattle.sram_netlist.specs.Numbers.{ArePlanNumbers}
use Rattle.sram_plan.specs.declared.numbers.Plan.{Plan}
use Rattle.sram_plan.specs.PlanNumbers.{numbers_of, organization}
use Rattle.port_lists.specs.Cells.{cell_in}
use Rattle.port_lists.specs.Held.Held.{Stored}
use Rattle.leaf_tables.specs.declared.kit.Kit.{Kit}
use Rattle.leaf_tables.specs.Kits.{IsKit}
use Rattle.macro_layout.specs.Places.{Floorplan}
use Rattle.macro_layout.specs.Floorplan.{Tracks}
use Rattle.macro_layout.specs.Stated.{AreStated}
use Rattle.macro_layout.specs.Wires.{IsTapAt}
use Rattle.floorplan.specs.LayoutOfKit.{layout_kit}
use Rattle.sram_macro.specs.declared.assembly.Macro.{Macro}
use Rattle.sram_macro.specs.Macro.{IsMacro}
use Rattle.good_wires.specs.Branches.{HasBottomBranches}
use Rattle.good_wires.specs.Drawn.{IsDrawnMemory}
use Rattle.good_wires.specs.Held.{ReachesTap}
use Rattle.good_wires.specs.Kept.{IsAmong}
use Rattle.good_wires.specs.Tops.{HasTopWires}
use Rattle.drawn_memories.specs.Ports.{ports_below, ports_above, ports_over, drop_of}

-- The flat lists are the stated layout of a drawn memory: on its floorplan its channels are routed, with each net on its lowest free
-- track; on the second and the fourth metal stand the branches of pins, and what else there is; and rails go up to their highest taps.
pub record IsDrawnMacro (kit : Kit) (plan : Organization) (wire : Wire) (lists : FlatLists) : Type 0 where
  pub tracks : Tracks
  pub floorplan : Floorplan
  pub drawn : IsDrawnMemory plan (layout_kit kit) wire tracks floorplan
  pub main_lowest : IsLowest (pitch wire) drawn.main.intervals drawn.main.track
  pub column_lowest : IsLowest (pitch wire) drawn.column.intervals drawn.column.track
  pub branches : HasBottomBranches (IsAmong ports_below) plan (layout_kit kit) wire tracks floorplan
  pub tops : HasTopWires (IsAmong ports_above) (IsAmong ports_over) (drop_of (layout_kit kit)) plan (layout_kit kit) wire tracks floorplan
  pub reaches : (x y end : ℤ) → IsTapAt plan (layout_kit kit) wire tracks.column floorplan x y end → ReachesTap plan (layout_kit kit) wire tracks.column floorplan x
  pub stated : AreStated kit.tech.layers kit.lib.structs plan (layout_kit kit) (Alike (cell_in kit.tech.roles Bitcell)) wire tracks floorplan lists

-- So are those of a macro of a kit and a plan that is written.
abbrev pub MacrosAreDrawn : Type 0
MacrosAreDrawn = (kit : Kit) (plan : Plan) (name : List ℕ) (m : Macro) (lists : FlatLists) → (is : IsKit kit) → ArePlanNumbers (numbers_of plan) → IsWritten (organization plan) → IsMacro kit plan Stored name m → AreFlatLists kit.tech.layers m.lib.structs name lists
    → IsDrawnMacro kit (organization plan) is.wire lists
