-- Rules that name no layer of wires are kept where the small memories keep them.
use Rattle.std.specs.Prelude.{◌⊎◌, ℕ, ℤ, pos, ◌≤ℤ◌, ◌+ℤ◌, List, [], Contains}
use Rattle.or_geom.specs.declared.shape.Shape.{Shape}
use Rattle.gds_library.specs.declared.library.Structure.{Structure}
use Rattle.tech_rules.specs.declared.tech.Layer.{Layer}
use Rattle.tech_rules.specs.declared.tech.Rule.{Rule}
use Rattle.tech_rules.specs.declared.tech.Rule.TheVariants.{Width, Space, Enclose}
use Rattle.tech_rules.specs.declared.tech.Wire.{Wire}
use Rattle.tile_checker.specs.RuleReport.{IsReport}
use Rattle.cell_hierarchy.specs.FlatSet.{IsFlatShape}
use Rattle.leaf_shapes.specs.Outline.{IsWireLayer}
use Rattle.sram_netlist.specs.Organization.{Organization}
use Rattle.sram_netlist.specs.BitCells.{BitCells, Alike}
use Rattle.macro_layout.specs.LayoutKit.{LayoutKit}
use Rattle.macro_layout.specs.Places.{Floorplan}
use Rattle.local_report.specs.Local.{KeepsRule}
use Rattle.good_places.specs.Leaves.{HasLeavesOn, AllPassAtMost, ReachesNeighboursOnly}
use Rattle.good_places.specs.Zones.{IsLaid}
use Rattle.good_places.specs.Windows.{IsWindowOf, IsWrittenPlan}

-- no layer of the wires
abbrev pub IsPlain : Wire → ℕ → Type 0
IsPlain wire layer = IsWireLayer wire layer → ⊥

-- the rule names no layer of wires, and its minimum and the leaf cells' overhangs are at most the reach
abbrev pub IsPlainRule : Wire → ℤ → ℤ → Rule → Type 0
IsPlainRule wire by reach (Width layer min) = IsPlain wire layer × (pos 1 ≤ℤ min) × ((min +ℤ (by +ℤ by)) ≤ℤ reach)
IsPlainRule wire by reach (Space layer other min) = IsPlain wire layer × IsPlain wire other × (pos 1 ≤ℤ min) × ((min +ℤ (by +ℤ by)) ≤ℤ reach)
IsPlainRule wire by reach (Enclose layer listed min) = IsPlain wire layer × ((other : ℕ) → Contains listed other → IsPlain wire other) × (pos 1 ≤ℤ min) × ((min +ℤ (by +ℤ by)) ≤ℤ reach)

-- a memory with its flat shapes: on layers without wires they are those of its leaf instances, which pass their cells by so much at most
pub record HasFlatShapes (Flat : List ℕ → Shape → Type 0) (plan : Organization) (kit : LayoutKit) (bits : BitCells) (wire : Wire) (f : Floorplan) (by : ℤ) (shapes : List Shape) : Type 0 where
  pub laid : IsLaid plan kit wire f
  pub passes : AllPassAtMost by Flat plan kit bits
  pub leaves : (layer : ℕ) → IsPlain wire layer → HasLeavesOn layer Flat plan kit bits f shapes

-- such a memory that breaks no rule
pub record IsCleanMemory (Flat : List ℕ → Shape → Type 0) (rules : List Rule) (plan : Organization) (kit : LayoutKit) (bits : BitCells) (wire : Wire) (by : ℤ) : Type 0 where
  pub floorplan : Floorplan
  pub shapes : List Shape
  pub flat : HasFlatShapes Flat plan kit bits wire floorplan by shapes
  pub clean : IsReport rules shapes []

abbrev pub PlainRulesAreKept : Type 0
PlainRulesAreKept = (layers : List Layer) (structs : List Structure) (rules : List Rule) (plan : Organization) (kit : LayoutKit) (bit : List ℕ) (wire : Wire) (f : Floorplan) (by reach : ℤ) (to : List Shape)
    → IsWrittenPlan plan → ReachesNeighboursOnly kit wire reach → HasFlatShapes (IsFlatShape layers structs) plan kit (Alike bit) wire f by to
    → ((other : Organization) → IsWindowOf plan other → IsCleanMemory (IsFlatShape layers structs) rules other kit (Alike bit) wire by)
    → (rule : Rule) → IsPlainRule wire by reach rule → KeepsRule rules to rule
