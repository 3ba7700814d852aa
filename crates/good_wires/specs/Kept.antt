-- Space rules of cuts are kept where the small memories keep them.
use Rattle.std.specs.Prelude.{◌≡◌, ◌⊎◌, Contains, ℕ, ℤ, pos, ◌≤ℤ◌, ◌+ℤ◌, List, [], slice_index}
use Rattle.or_geom.specs.declared.shape.Shape.{Shape}
use Rattle.gds_library.specs.declared.library.Structure.{Structure}
use Rattle.tech_rules.specs.declared.tech.Layer.{Layer}
use Rattle.tech_rules.specs.declared.tech.Rule.{Rule}
use Rattle.tech_rules.specs.declared.tech.Rule.TheVariants.{Space}
use Rattle.tech_rules.specs.declared.tech.Wire.{Wire}
use Rattle.tile_checker.specs.RuleReport.{IsReport}
use Rattle.cell_hierarchy.specs.FlatSet.{IsFlatShape}
use Rattle.sram_netlist.specs.Organization.{Organization}
use Rattle.sram_netlist.specs.Instances.{LeafInstance}
use Rattle.sram_netlist.specs.Netlist.{role}
use Rattle.sram_netlist.specs.Membership.{HasLeafInstance}
use Rattle.sram_netlist.specs.BitCells.{BitCells, Alike}
use Rattle.macro_layout.specs.LayoutKit.{LayoutKit}
use Rattle.macro_layout.specs.Places.{Floorplan, leaf_cell}
use Rattle.macro_layout.specs.Floorplan.{Tracks}
use Rattle.local_report.specs.Local.{KeepsRule}
use Rattle.good_places.specs.Leaves.{HasLeavesAndWires, AllPassAtMost, PassesAtMost, ReachesNeighboursOnly}
use Rattle.leaf_shapes.specs.Outline.{IsWireLayer}
use Rattle.good_places.specs.Windows.{IsWindowOf, IsWrittenPlan}
use Rattle.cell_roles.specs.declared.role.Role.{Role}
use Rattle.good_wires.specs.Drawn.{IsDrawnMemory, IsDrawnWire}
use Rattle.good_wires.specs.Branches.{HasBottomBranches}
use Rattle.good_wires.specs.Tops.{HasTopWires}

-- on layers of wires leaf cells draw inside their sides alone
abbrev pub AllDrawInside : Wire → (List ℕ → Shape → Type 0) → Organization → LayoutKit → BitCells → Type 0
AllDrawInside wire Flat plan kit bits = (leaf : LeafInstance) (s : Shape) → HasLeafInstance plan leaf → Flat (leaf_cell plan kit bits leaf) s → IsWireLayer wire s.layer → PassesAtMost (pos 0) (kit.width (role plan leaf)) (kit.height (role plan leaf)) s.rect

-- a memory with its flat shapes: on the layers of wires, its wires and the shapes of its leaf instances
pub record HasDrawnShapes (Flat : List ℕ → Shape → Type 0) (plan : Organization) (kit : LayoutKit) (bits : BitCells) (wire : Wire) (tracks : Tracks) (f : Floorplan) (by : ℤ) (shapes : List Shape) : Type 0 where
  pub drawn : IsDrawnMemory plan kit wire tracks f
  pub passes : AllPassAtMost by Flat plan kit bits
  pub inside : AllDrawInside wire Flat plan kit bits
  pub has : (layer : ℕ) → IsWireLayer wire layer → HasLeavesAndWires layer Flat plan kit bits f (IsDrawnWire plan kit wire tracks f) shapes

-- such a memory that breaks no rule
pub record IsCleanDrawing (Flat : List ℕ → Shape → Type 0) (rules : List Rule) (plan : Organization) (kit : LayoutKit) (bits : BitCells) (wire : Wire) (by : ℤ) : Type 0 where
  pub tracks : Tracks
  pub floorplan : Floorplan
  pub shapes : List Shape
  pub flat : HasDrawnShapes Flat plan kit bits wire tracks floorplan by shapes
  pub clean : IsReport rules shapes []

-- The space rule of a cut between the second and the third metal, or between the third and the fourth.
abbrev pub CutSpacesAreKept : Type 0
CutSpacesAreKept = (layers : List Layer) (structs : List Structure) (rules : List Rule) (plan : Organization) (kit : LayoutKit) (bit : List ℕ) (wire : Wire) (tracks : Tracks) (f : Floorplan) (by reach : ℤ) (to : List Shape)
    → IsWrittenPlan plan → ReachesNeighboursOnly kit wire reach → HasDrawnShapes (IsFlatShape layers structs) plan kit (Alike bit) wire tracks f by to
    → ((other : Organization) → IsWindowOf plan other → IsCleanDrawing (IsFlatShape layers structs) rules other kit (Alike bit) wire by)
    → (k : ℕ) (min : ℤ) → (k ≡ 1) ⊎ (k ≡ 2) → pos 1 ≤ℤ min → min ≤ℤ wire.space → (min +ℤ (by +ℤ by)) ≤ℤ reach → KeepsRule rules to (Space (slice_index wire.cuts k) (slice_index wire.cuts k) min)

-- such a memory, on whose second metal branches of the pins of these ports stand
pub record IsCleanBranched (Met : Role → ℕ → Type 0) (Flat : List ℕ → Shape → Type 0) (rules : List Rule) (plan : Organization) (kit : LayoutKit) (bits : BitCells) (wire : Wire) (by : ℤ) : Type 0 where
  pub drawing : IsCleanDrawing Flat rules plan kit bits wire by
  pub branches : HasBottomBranches Met plan kit wire drawing.tracks drawing.floorplan

-- a port of a role
abbrev pub Ports : Type 0
Ports = List (Role × ℕ)

abbrev pub IsAmong : Ports → Role → ℕ → Type 0
IsAmong ports role port = Contains ports (role, port)

-- The space rule of the second metal.
abbrev pub SecondSpaceIsKept : Type 0
SecondSpaceIsKept = (ports : Ports) (layers : List Layer) (structs : List Structure) (rules : List Rule) (plan : Organization) (kit : LayoutKit) (bit : List ℕ) (wire : Wire) (tracks : Tracks) (f : Floorplan) (by reach : ℤ) (to : List Shape)
    → IsWrittenPlan plan → ReachesNeighboursOnly kit wire reach → pos 0 ≤ℤ by → HasDrawnShapes (IsFlatShape layers structs) plan kit (Alike bit) wire tracks f by to → HasBottomBranches (IsAmong ports) plan kit wire tracks f
    → Contains wire.metals (slice_index wire.metals 1)
    → ((other : Organization) → IsWindowOf plan other → IsCleanBranched (IsAmong ports) (IsFlatShape layers structs) rules other kit (Alike bit) wire by)
    → (min : ℤ) → pos 1 ≤ℤ min → min ≤ℤ wire.space → (min +ℤ (by +ℤ by)) ≤ℤ reach → KeepsRule rules to (Space (slice_index wire.metals 1) (slice_index wire.metals 1) min)

-- such a memory, on whose fourth metal branches, outputs and rails stand
pub record IsCleanTopped (Met Out : Role → ℕ → Type 0) (drop : Role → ℕ) (Flat : List ℕ → Shape → Type 0) (rules : List Rule) (plan : Organization) (kit : LayoutKit) (bits : BitCells) (wire : Wire) (by : ℤ) : Type 0 where
  pub drawing : IsCleanDrawing Flat rules plan kit bits wire by
  pub tops : HasTopWires Met Out drop plan kit wire drawing.tracks drawing.floorplan

-- The space rule of the fourth metal.
abbrev pub FourthSpaceIsKept : Type 0
FourthSpaceIsKept = (ports outs : Ports) (drop : Role → ℕ) (layers : List Layer) (structs : List Structure) (rules : List Rule) (plan : Organization) (kit : LayoutKit) (bit : List ℕ) (wire : Wire) (tracks : Tracks) (f : Floorplan) (by reach : ℤ) (to : List Shape)
    → IsWrittenPlan plan → ReachesNeighboursOnly kit wire reach → pos 0 ≤ℤ by → HasDrawnShapes (IsFlatShape layers structs) plan kit (Alike bit) wire tracks f by to → HasTopWires (IsAmong ports) (IsAmong outs) drop plan kit wire tracks f
    → Contains wire.metals (slice_index wire.metals 3)
    → ((other : Organization) → IsWindowOf plan other → IsCleanTopped (IsAmong ports) (IsAmong outs) drop (IsFlatShape layers structs) rules other kit (Alike bit) wire by)
    → (min : ℤ) → pos 1 ≤ℤ min → min ≤ℤ wire.space → (min +ℤ (by +ℤ by)) ≤ℤ reach → KeepsRule rules to (Space (slice_index wire.metals 3) (slice_index wire.metals 3) min)
