-- Enclose rules that name layers of wires are kept where the small memories keep them.
use Rattle.std.specs.Prelude.{◌⊎◌, ◌<◌, Contains, ℕ, ◌+◌, ℤ, pos, ◌≤ℤ◌, ◌<ℤ◌, ◌+ℤ◌, List, slice_index}
use Rattle.or_geom.specs.declared.shape.Shape.{Shape}
use Rattle.gds_library.specs.declared.library.Structure.{Structure}
use Rattle.cell_roles.specs.declared.role.Role.{Role}
use Rattle.tech_rules.specs.declared.tech.Layer.{Layer}
use Rattle.tech_rules.specs.declared.tech.Rule.{Rule}
use Rattle.tech_rules.specs.declared.tech.Rule.TheVariants.{Enclose}
use Rattle.tech_rules.specs.declared.tech.Wire.{Wire}
use Rattle.tech_rules.specs.WireRules.{margin}
use Rattle.cell_hierarchy.specs.FlatSet.{IsFlatShape}
use Rattle.sram_netlist.specs.Organization.{Organization}
use Rattle.sram_netlist.specs.BitCells.{Alike}
use Rattle.macro_layout.specs.LayoutKit.{LayoutKit}
use Rattle.macro_layout.specs.Places.{Floorplan}
use Rattle.macro_layout.specs.Floorplan.{Tracks}
use Rattle.local_report.specs.Local.{KeepsRule}
use Rattle.good_places.specs.Leaves.{ReachesNeighboursOnly}
use Rattle.good_places.specs.Plain.{IsPlain}
use Rattle.good_places.specs.Windows.{IsWindowOf, IsWrittenPlan}
use Rattle.good_wires.specs.Held.{DoRailsReach}
use Rattle.good_wires.specs.Kept.{Ports, IsAmong}
use Rattle.leaf_margins.specs.Memories.{IsMetalOrCut, HasMemoryShapes, IsCleanLayout}

-- A rule that a cut of wires is enclosed, by no more than the wires' margin, by layers of which the metal below or above it is one.
abbrev pub CutEnclosuresAreKept : Type 0
CutEnclosuresAreKept = (ports tops outs : Ports) (drop : Role → ℕ) (layers : List Layer) (structs : List Structure) (rules : List Rule) (plan : Organization) (kit : LayoutKit) (bit : List ℕ) (wire : Wire) (tracks : Tracks) (f : Floorplan) (by reach : ℤ) (to : List Shape)
    → IsWrittenPlan plan → ReachesNeighboursOnly kit wire reach → pos 0 ≤ℤ by → HasMemoryShapes (IsAmong ports) (IsAmong tops) (IsAmong outs) drop (IsFlatShape layers structs) plan kit (Alike bit) wire tracks f by to
    → ((k : ℕ) → k < 4 → Contains wire.metals (slice_index wire.metals k))
    → ((other : Organization) → IsWindowOf plan other → IsCleanLayout (IsAmong ports) (IsAmong tops) (IsAmong outs) drop (IsFlatShape layers structs) rules other kit (Alike bit) wire by)
    → DoRailsReach plan kit wire tracks.column f
    → (k : ℕ) (min : ℤ) (listed : List ℕ) → k < 3 → pos 1 ≤ℤ min → min ≤ℤ margin wire → (min +ℤ (by +ℤ by)) ≤ℤ reach → Contains listed (slice_index wire.metals k) ⊎ Contains listed (slice_index wire.metals (k + 1))
    → ((layer : ℕ) → Contains listed layer → IsPlain wire layer ⊎ IsMetalOrCut wire layer) → KeepsRule rules to (Enclose (slice_index wire.cuts k) listed min)

-- A rule that shapes of a layer without wires are enclosed by layers of which some have wires, in a kit whose shapes pass their cells by
-- no more than the wires' space, and whose cells are higher than two wires.
abbrev pub EnclosuresByWiresAreKept : Type 0
EnclosuresByWiresAreKept = (ports tops outs : Ports) (drop : Role → ℕ) (layers : List Layer) (structs : List Structure) (rules : List Rule) (plan : Organization) (kit : LayoutKit) (bit : List ℕ) (wire : Wire) (tracks : Tracks) (f : Floorplan) (by reach : ℤ) (to : List Shape)
    → IsWrittenPlan plan → ReachesNeighboursOnly kit wire reach → pos 0 ≤ℤ by → by ≤ℤ wire.space → HasMemoryShapes (IsAmong ports) (IsAmong tops) (IsAmong outs) drop (IsFlatShape layers structs) plan kit (Alike bit) wire tracks f by to
    → ((k : ℕ) → k < 4 → Contains wire.metals (slice_index wire.metals k))
    → ((other : Organization) → IsWindowOf plan other → IsCleanLayout (IsAmong ports) (IsAmong tops) (IsAmong outs) drop (IsFlatShape layers structs) rules other kit (Alike bit) wire by)
    → ((role : Role) → (wire.width +ℤ wire.width) <ℤ pos (kit.height role))
    → (layer : ℕ) (min : ℤ) (listed : List ℕ) → IsPlain wire layer → pos 1 ≤ℤ min → (min +ℤ (by +ℤ by)) ≤ℤ reach → ((other : ℕ) → Contains listed other → IsPlain wire other ⊎ IsMetalOrCut wire other) → KeepsRule rules to (Enclose layer listed min)
