-- A small memory of a kit, as a window.
use Rattle.std.specs.Prelude.{List}
use Rattle.netlist.specs.declared.rows.RowPin.{RowPin}
use Rattle.cell_roles.specs.declared.role.Role.{Role}
use Rattle.tech_rules.specs.declared.tech.Wire.{Wire}
use Rattle.cell_hierarchy.specs.Plain.{FlatLists}
use Rattle.net_extractor.specs.PlainNetLabel.{PlainNetLabel}
use Rattle.sram_netlist.specs.Organization.{Organization}
use Rattle.leaf_tables.specs.declared.kit.Kit.{Kit}
use Rattle.macro_layout.specs.Floorplan.{Tracks}
use Rattle.macro_layout.specs.Places.{Floorplan}
use Rattle.kit_nets.specs.StatedWindow.{IsStatedWindow}
use Rattle.seen_pairs.specs.Window.{IsDrawnSource}
use Rattle.wired_kits.specs.KitMacros.{source_of_kit}

-- a stated window of the memory on some floorplan, each role's lists those given
pub record IsWindowThere (kit : Kit) (leaves : Role → FlatLists) (wire : Wire) (plan : Organization) : Type 0 where
  pub tracks : Tracks
  pub floorplan : Floorplan
  pub source : IsDrawnSource (source_of_kit kit leaves plan wire tracks floorplan)
  pub flat : FlatLists
  pub labels : List PlainNetLabel
  pub rows : List RowPin
  pub stated : IsStatedWindow kit.tech.connects (source_of_kit kit leaves plan wire tracks floorplan) flat labels rows
