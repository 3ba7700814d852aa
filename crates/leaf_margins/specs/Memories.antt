-- Memories with all their flat shapes.
use Rattle.std.specs.Prelude.{◌≡◌, ◌⊎◌, ◌<◌, ℕ, ℤ, List, [], slice_index}
use Rattle.or_geom.specs.declared.shape.Shape.{Shape}
use Rattle.cell_roles.specs.declared.role.Role.{Role}
use Rattle.tech_rules.specs.declared.tech.Rule.{Rule}
use Rattle.tech_rules.specs.declared.tech.Wire.{Wire}
use Rattle.tile_checker.specs.RuleReport.{IsReport}
use Rattle.sram_netlist.specs.Organization.{Organization}
use Rattle.sram_netlist.specs.BitCells.{BitCells}
use Rattle.macro_layout.specs.LayoutKit.{LayoutKit}
use Rattle.macro_layout.specs.Places.{Floorplan}
use Rattle.macro_layout.specs.Floorplan.{Tracks}
use Rattle.good_places.specs.Leaves.{HasLeavesOn}
use Rattle.good_places.specs.Plain.{IsPlain}
use Rattle.good_wires.specs.Branches.{HasBottomBranches}
use Rattle.good_wires.specs.Tops.{HasTopWires}
use Rattle.good_wires.specs.Kept.{HasDrawnShapes}

-- one of the four metals of wires, or of the three cuts between them
abbrev pub IsMetalOrCut : Wire → ℕ → Type 0
IsMetalOrCut wire layer = ((k : ℕ) × (k < 4) × (layer ≡ slice_index wire.metals k)) ⊎ ((k : ℕ) × (k < 3) × (layer ≡ slice_index wire.cuts k))

-- a memory with its flat shapes: its wires, which stand at the pins of these ports, and the shapes of its leaf instances
pub record HasMemoryShapes (Met Top Out : Role → ℕ → Type 0) (drop : Role → ℕ) (Flat : List ℕ → Shape → Type 0) (plan : Organization) (kit : LayoutKit) (bits : BitCells) (wire : Wire) (tracks : Tracks) (f : Floorplan) (by : ℤ) (shapes : List Shape) : Type 0 where
  pub flat : HasDrawnShapes Flat plan kit bits wire tracks f by shapes
  pub branches : HasBottomBranches Met plan kit wire tracks f
  pub tops : HasTopWires Top Out drop plan kit wire tracks f
  pub leaves : (layer : ℕ) → IsPlain wire layer → HasLeavesOn layer Flat plan kit bits f shapes

-- such a memory that breaks no rule
pub record IsCleanLayout (Met Top Out : Role → ℕ → Type 0) (drop : Role → ℕ) (Flat : List ℕ → Shape → Type 0) (rules : List Rule) (plan : Organization) (kit : LayoutKit) (bits : BitCells) (wire : Wire) (by : ℤ) : Type 0 where
  pub tracks : Tracks
  pub floorplan : Floorplan
  pub shapes : List Shape
  pub has : HasMemoryShapes Met Top Out drop Flat plan kit bits wire tracks floorplan by shapes
  pub clean : IsReport rules shapes []
