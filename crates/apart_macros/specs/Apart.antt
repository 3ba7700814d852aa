-- No free shape of a leaf instance in a memory touches a shape outside of it.
use Rattle.std.specs.Prelude.{◌≡◌, ℕ, List}
use Rattle.or_geom.specs.declared.shape.Shape.{Shape}
use Rattle.cell_roles.specs.declared.role.Role.{Role}
use Rattle.cell_roles.specs.declared.role.Role.TheVariants.{Bitcell}
use Rattle.tech_rules.specs.declared.tech.Connect.{Connect}
use Rattle.tech_rules.specs.declared.tech.Wire.{Wire}
use Rattle.tech_rules.specs.Touch.{Touch}
use Rattle.cell_hierarchy.specs.Plain.{FlatLists}
use Rattle.cell_hierarchy.specs.FlatLists.{AreFlatLists}
use Rattle.sram_netlist.specs.Numbers.{ArePlanNumbers}
use Rattle.sram_netlist.specs.BitCells.BitCells.{Alike}
use Rattle.sram_plan.specs.declared.numbers.Plan.{Plan}
use Rattle.sram_plan.specs.PlanNumbers.{numbers_of, organization}
use Rattle.port_lists.specs.Cells.{cell_in}
use Rattle.port_lists.specs.Held.Held.{Stored}
use Rattle.leaf_tables.specs.declared.kit.Kit.{Kit}
use Rattle.leaf_tables.specs.Kits.{IsKit}
use Rattle.leaf_nets.specs.Leaves.{HaveRightPins}
use Rattle.macro_layout.specs.Places.{Floorplan}
use Rattle.macro_layout.specs.Floorplan.{Tracks}
use Rattle.floorplan.specs.LayoutOfKit.{layout_kit}
use Rattle.floorplan.specs.FloorplanNumbers.{floorplan_of}
use Rattle.sram_macro.specs.declared.assembly.Macro.{Macro}
use Rattle.sram_macro.specs.Macro.{IsMacro}
use Rattle.kit_check.specs.Judged.{TouchesOutside}
use Rattle.good_nets.specs.Parts.{IsShapeOf, IsFree, IsOutside}
use Rattle.kit_nets.specs.StatedParts.{Source, Standing, stated_parts}

-- no free shape of an instance touches a shape outside of it
abbrev pub AreFreeApart : List Connect → Source → Type 0
AreFreeApart connections s = (i : Standing s) (inner shape t : Shape) → IsShapeOf connections (stated_parts s) i inner shape → IsFree connections (stated_parts s) i inner → IsOutside connections (stated_parts s) i t → Touch connections shape t → ⊥

-- what a macro of a kit is stated by
abbrev pub macro_source : Kit → Plan → (Role → FlatLists) → Wire → Tracks → Floorplan → Source
macro_source kit plan leaves wire tracks floorplan = record {
  layers = kit.tech.layers;
  structs = kit.lib.structs;
  plan = organization plan;
  kit = layout_kit kit;
  bits = Alike (cell_in kit.tech.roles Bitcell);
  wire = wire;
  tracks = tracks;
  floorplan = floorplan;
  lists = leaves;
}

-- So it is in a macro of a kit whose pins are right, on its own tracks and floorplan, where no loose shape touches another outside.
abbrev pub MacrosAreApart : Type 0
MacrosAreApart = (kit : Kit) (plan : Plan) (name : List ℕ) (m : Macro) (leaves : Role → FlatLists) (tracks : Tracks) (floorplan : Floorplan) → (is : IsKit kit) → HaveRightPins kit → ArePlanNumbers (numbers_of plan) → (made : IsMacro kit plan Stored name m)
    → tracks ≡ record { main = made.layout.main.tracks; column = made.laid.column.tracks } → floorplan ≡ floorplan_of made.layout.floorplan → ((role : Role) → AreFlatLists kit.tech.layers kit.lib.structs (cell_in kit.tech.roles role) (leaves role))
    → (TouchesOutside kit name m.lib.structs → ⊥) → AreFreeApart kit.tech.connects (macro_source kit plan leaves is.wire tracks floorplan)
