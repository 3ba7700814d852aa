-- The macros of a kit whose pins are right, as they are stated by its leaf cells.
use Rattle.cell_roles.specs.declared.role.Role.{Role}
use Rattle.cell_roles.specs.declared.role.Role.TheVariants.{Bitcell}
use Rattle.tech_rules.specs.declared.tech.Wire.{Wire}
use Rattle.cell_hierarchy.specs.Plain.{FlatLists}
use Rattle.leaf_tables.specs.declared.kit.Kit.{Kit}
use Rattle.sram_netlist.specs.Organization.{Organization}
use Rattle.sram_netlist.specs.BitCells.{Alike}
use Rattle.port_lists.specs.Cells.{cell_in}
use Rattle.floorplan.specs.LayoutOfKit.{layout_kit}
use Rattle.macro_layout.specs.Floorplan.{Tracks}
use Rattle.macro_layout.specs.Places.{Floorplan}
use Rattle.kit_nets.specs.StatedParts.{Source}

-- a macro of the kit's layout, each role's lists those given
abbrev pub source_of_kit : Kit → (Role → FlatLists) → Organization → Wire → Tracks → Floorplan → Source
source_of_kit kit leaves plan wire tracks floorplan = record {
  layers = kit.tech.layers;
  structs = kit.lib.structs;
  plan = plan;
  kit = layout_kit kit;
  bits = Alike (cell_in kit.tech.roles Bitcell);
  wire = wire;
  tracks = tracks;
  floorplan = floorplan;
  lists = leaves;
}
