-- The space rule of the third metal is kept where the small memories keep it.
use Rattle.std.specs.Prelude.{Contains, ℕ, ℤ, pos, ◌≤ℤ◌, ◌+ℤ◌, List, slice_index}
use Rattle.or_geom.specs.declared.shape.Shape.{Shape}
use Rattle.gds_library.specs.declared.library.Structure.{Structure}
use Rattle.tech_rules.specs.declared.tech.Layer.{Layer}
use Rattle.tech_rules.specs.declared.tech.Rule.{Rule}
use Rattle.tech_rules.specs.declared.tech.Rule.TheVariants.{Space}
use Rattle.tech_rules.specs.declared.tech.Wire.{Wire}
use Rattle.cell_hierarchy.specs.FlatSet.{IsFlatShape}
use Rattle.sram_netlist.specs.Organization.{Organization}
use Rattle.sram_netlist.specs.BitCells.{Alike}
use Rattle.macro_layout.specs.LayoutKit.{LayoutKit}
use Rattle.macro_layout.specs.Places.{Floorplan}
use Rattle.macro_layout.specs.Floorplan.{Tracks}
use Rattle.local_report.specs.Local.{KeepsRule}
use Rattle.good_places.specs.Leaves.{ReachesNeighboursOnly}
use Rattle.good_places.specs.Windows.{IsWindowOf, IsWrittenPlan}
use Rattle.good_wires.specs.Kept.{HasDrawnShapes, IsCleanDrawing}

abbrev pub ThirdSpaceIsKept : Type 0
ThirdSpaceIsKept = (layers : List Layer) (structs : List Structure) (rules : List Rule) (plan : Organization) (kit : LayoutKit) (bit : List ℕ) (wire : Wire) (tracks : Tracks) (f : Floorplan) (by reach : ℤ) (to : List Shape)
    → IsWrittenPlan plan → ReachesNeighboursOnly kit wire reach → pos 0 ≤ℤ by → HasDrawnShapes (IsFlatShape layers structs) plan kit (Alike bit) wire tracks f by to
    → Contains wire.metals (slice_index wire.metals 2)
    → ((other : Organization) → IsWindowOf plan other → IsCleanDrawing (IsFlatShape layers structs) rules other kit (Alike bit) wire by)
    → (min : ℤ) → pos 1 ≤ℤ min → min ≤ℤ wire.space → (min +ℤ (by +ℤ by)) ≤ℤ reach → KeepsRule rules to (Space (slice_index wire.metals 2) (slice_index wire.metals 2) min)
