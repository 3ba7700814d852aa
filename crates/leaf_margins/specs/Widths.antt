-- Width rules of the layers of wires are kept where the small memories keep them.
use Rattle.std.specs.Prelude.{◌⊎◌, ◌<◌, Contains, ℕ, ℤ, pos, ◌≤ℤ◌, ◌+ℤ◌, List, slice_index}
use Rattle.or_geom.specs.declared.shape.Shape.{Shape}
use Rattle.gds_library.specs.declared.library.Structure.{Structure}
use Rattle.cell_roles.specs.declared.role.Role.{Role}
use Rattle.tech_rules.specs.declared.tech.Layer.{Layer}
use Rattle.tech_rules.specs.declared.tech.Rule.{Rule}
use Rattle.tech_rules.specs.declared.tech.Rule.TheVariants.{Width}
use Rattle.tech_rules.specs.declared.tech.Wire.{Wire}
use Rattle.cell_hierarchy.specs.FlatSet.{IsFlatShape}
use Rattle.sram_netlist.specs.Organization.{Organization}
use Rattle.sram_netlist.specs.BitCells.{Alike}
use Rattle.macro_layout.specs.LayoutKit.{LayoutKit}
use Rattle.macro_layout.specs.Places.{Floorplan}
use Rattle.macro_layout.specs.Floorplan.{Tracks}
use Rattle.local_report.specs.Local.{KeepsRule}
use Rattle.good_places.specs.Leaves.{ReachesNeighboursOnly}
use Rattle.good_places.specs.Windows.{IsWindowOf, IsWrittenPlan}
use Rattle.good_wires.specs.Kept.{Ports, IsAmong}
use Rattle.leaf_margins.specs.Memories.{IsMetalOrCut, HasMemoryShapes, IsCleanLayout}

-- A width rule of a layer of wires, with a minimum that a cut has, or one that a wire has on a layer that has no cuts.
abbrev pub WireLayerWidthsAreKept : Type 0
WireLayerWidthsAreKept = (ports tops outs : Ports) (drop : Role → ℕ) (layers : List Layer) (structs : List Structure) (rules : List Rule) (plan : Organization) (kit : LayoutKit) (bit : List ℕ) (wire : Wire) (tracks : Tracks) (f : Floorplan) (by reach : ℤ) (to : List Shape)
    → IsWrittenPlan plan → ReachesNeighboursOnly kit wire reach → pos 0 ≤ℤ by → HasMemoryShapes (IsAmong ports) (IsAmong tops) (IsAmong outs) drop (IsFlatShape layers structs) plan kit (Alike bit) wire tracks f by to
    → ((k : ℕ) → k < 4 → Contains wire.metals (slice_index wire.metals k))
    → ((other : Organization) → IsWindowOf plan other → IsCleanLayout (IsAmong ports) (IsAmong tops) (IsAmong outs) drop (IsFlatShape layers structs) rules other kit (Alike bit) wire by)
    → (layer : ℕ) (min : ℤ) → IsMetalOrCut wire layer → (min ≤ℤ wire.cut) ⊎ ((min ≤ℤ wire.width) × (Contains wire.cuts layer → ⊥)) → pos 1 ≤ℤ min → (min +ℤ (by +ℤ by)) ≤ℤ reach → KeepsRule rules to (Width layer min)
