-- A memory of which each small one breaks no rule breaks none.
use Rattle.std.specs.Prelude.{◌≡◌, Contains, ℕ, ℤ, pos, ◌≤ℤ◌, ◌<ℤ◌, ◌+ℤ◌, List, [], length}
use Rattle.or_geom.specs.declared.shape.Shape.{Shape}
use Rattle.gds_library.specs.declared.library.Structure.{Structure}
use Rattle.cell_roles.specs.declared.role.Role.{Role}
use Rattle.tech_rules.specs.declared.tech.Layer.{Layer}
use Rattle.tech_rules.specs.declared.tech.Rule.{Rule}
use Rattle.tech_rules.specs.declared.tech.Wire.{Wire}
use Rattle.tile_checker.specs.RuleReport.{IsReport}
use Rattle.cell_hierarchy.specs.FlatSet.{IsFlatShape}
use Rattle.sram_netlist.specs.Organization.{Organization}
use Rattle.sram_netlist.specs.BitCells.{Alike}
use Rattle.macro_layout.specs.LayoutKit.{LayoutKit}
use Rattle.macro_layout.specs.Places.{Floorplan}
use Rattle.macro_layout.specs.Floorplan.{Tracks}
use Rattle.good_places.specs.Leaves.{ReachesNeighboursOnly}
use Rattle.good_places.specs.Windows.{IsWindowOf, IsWrittenPlan}
use Rattle.good_wires.specs.Held.{DoRailsReach}
use Rattle.good_wires.specs.Kept.{Ports, IsAmong}
use Rattle.leaf_margins.specs.Memories.{HasMemoryShapes, IsCleanLayout}
use Rattle.kept_rules.specs.Allowed.{IsKeptRule}

-- four metals and three cuts
pub record HasSevenLayers (wire : Wire) : Type 0 where
  pub four : length wire.metals ≡ 4
  pub three : length wire.cuts ≡ 3

abbrev pub ReportsAreEmpty : Type 0
ReportsAreEmpty = (ports tops outs : Ports) (drop : Role → ℕ) (layers : List Layer) (structs : List Structure) (rules : List Rule) (plan : Organization) (kit : LayoutKit) (bit : List ℕ) (wire : Wire) (tracks : Tracks) (f : Floorplan) (by reach : ℤ) (to : List Shape)
    → IsWrittenPlan plan → ReachesNeighboursOnly kit wire reach → pos 0 ≤ℤ by → HasMemoryShapes (IsAmong ports) (IsAmong tops) (IsAmong outs) drop (IsFlatShape layers structs) plan kit (Alike bit) wire tracks f by to
    → DoRailsReach plan kit wire tracks.column f → HasSevenLayers wire → by ≤ℤ wire.space → ((role : Role) → (wire.width +ℤ wire.width) <ℤ pos (kit.height role))
    → ((other : Organization) → IsWindowOf plan other → IsCleanLayout (IsAmong ports) (IsAmong tops) (IsAmong outs) drop (IsFlatShape layers structs) rules other kit (Alike bit) wire by)
    → ((rule : Rule) → Contains rules rule → IsKeptRule wire by reach rule) → IsReport rules to []
