-- Shapes of leaf instances are seen in another memory as they stand, on layers that only leaf cells draw on.
use Rattle.std.specs.Prelude.{◌≡◌, ℕ, ℤ, pos, ◌≤ℤ◌, ◌+ℤ◌, List, [], Contains}
use Rattle.or_geom.specs.declared.shape.Shape.{Shape}
use Rattle.gds_library.specs.declared.library.Structure.{Structure}
use Rattle.tech_rules.specs.declared.tech.Layer.{Layer}
use Rattle.tech_rules.specs.declared.tech.Rule.{Rule}
use Rattle.tech_rules.specs.declared.tech.Wire.{Wire}
use Rattle.tile_checker.specs.Breaks.{AreNear}
use Rattle.tile_checker.specs.RuleReport.{IsReport}
use Rattle.cell_hierarchy.specs.FlatSet.{IsFlatShape}
use Rattle.cell_builder.specs.Flat.{IsShapeTaken}
use Rattle.sram_netlist.specs.Organization.{Organization}
use Rattle.sram_netlist.specs.BitCells.{BitCells}
use Rattle.macro_layout.specs.LayoutKit.{LayoutKit}
use Rattle.macro_layout.specs.Places.{Floorplan}
use Rattle.macro_layout.specs.Layout.{IsOfLeaf}
use Rattle.local_report.specs.Local.{IsWidthSeen, IsEncloseSeen, IsSpaceSeen}
use Rattle.good_places.specs.Leaves.{Zone, zone_of, HasLeavesOn, AllPassAtMost}
use Rattle.good_places.specs.Zones.{IsLaid, MovesNear}

-- the zone, so much further right and up
pub record IsMovedZone (dx dy : ℤ) (from to : Zone) : Type 0 where
  pub left : to.left ≡ from.left +ℤ dx
  pub right : to.right ≡ from.right +ℤ dx
  pub low : to.low ≡ from.low +ℤ dy
  pub high : to.high ≡ from.high +ℤ dy

-- around the two zones the memories' instances stand alike, in both directions
pub record AreAlikeZones (reach : ℤ) (plan other : Organization) (kit : LayoutKit) (bits : BitCells) (f g : Floorplan) (here there : Zone) : Type 0 where
  pub right : ℤ
  pub up : ℤ
  pub left : ℤ
  pub down : ℤ
  pub back_x : right +ℤ left ≡ pos 0
  pub back_y : up +ℤ down ≡ pos 0
  pub same : IsMovedZone right up there here
  pub to : MovesNear reach other g there plan f kit bits right up
  pub from : MovesNear reach plan f here other g kit bits left down

-- the shape is one of a leaf instance in the zone
pub record IsInZone (Flat : List ℕ → Shape → Type 0) (plan : Organization) (kit : LayoutKit) (bits : BitCells) (f : Floorplan) (here : Zone) (a : Shape) : Type 0 where
  pub of : IsOfLeaf plan kit bits f IsShapeTaken Flat a
  pub zone : zone_of plan kit f of.leaf of.place ≡ here

-- two memories of one kit, of which the other's layout breaks no rule; leaf cells pass their sides by so much, and rules reach so far
pub record AreCompared (Flat : List ℕ → Shape → Type 0) (rules : List Rule) (plan other : Organization) (kit : LayoutKit) (bits : BitCells) (f g : Floorplan) (wire : Wire) (by reach : ℤ) (here there : Zone) (from : List Shape) : Type 0 where
  pub laid : IsLaid plan kit wire f
  pub laid_there : IsLaid other kit wire g
  pub clean : IsReport rules from []
  pub alike : AreAlikeZones reach plan other kit bits f g here there
  pub passes : AllPassAtMost by Flat plan kit bits
  pub passes_there : AllPassAtMost by Flat other kit bits

abbrev pub LeafWidthsAreSeen : Type 0
LeafWidthsAreSeen = (layers : List Layer) (structs : List Structure) (rules : List Rule) (plan other : Organization) (kit : LayoutKit) (bits : BitCells) (f g : Floorplan) (wire : Wire) (by reach : ℤ) (here there : Zone) (from to : List Shape)
    → AreCompared (IsFlatShape layers structs) rules plan other kit bits f g wire by reach here there from
    → (layer : ℕ) (min : ℤ) (a : Shape) → pos 1 ≤ℤ min → (min +ℤ (by +ℤ by)) ≤ℤ reach → HasLeavesOn layer (IsFlatShape layers structs) other kit bits g from → HasLeavesOn layer (IsFlatShape layers structs) plan kit bits f to → a.layer ≡ layer → IsInZone (IsFlatShape layers structs) plan kit bits f here a
    → IsWidthSeen rules layer min to a

-- a shape and another that is near it
abbrev pub LeafSpacesAreSeen : Type 0
LeafSpacesAreSeen = (layers : List Layer) (structs : List Structure) (rules : List Rule) (plan other : Organization) (kit : LayoutKit) (bits : BitCells) (f g : Floorplan) (wire : Wire) (by reach : ℤ) (here there : Zone) (from to : List Shape)
    → AreCompared (IsFlatShape layers structs) rules plan other kit bits f g wire by reach here there from
    → (min : ℤ) (a b : Shape) → pos 1 ≤ℤ min → (min +ℤ (by +ℤ by)) ≤ℤ reach → HasLeavesOn a.layer (IsFlatShape layers structs) other kit bits g from → HasLeavesOn a.layer (IsFlatShape layers structs) plan kit bits f to → HasLeavesOn b.layer (IsFlatShape layers structs) other kit bits g from → HasLeavesOn b.layer (IsFlatShape layers structs) plan kit bits f to
    → IsInZone (IsFlatShape layers structs) plan kit bits f here a → Contains to b → AreNear min a.rect b.rect → IsSpaceSeen rules min to a b

-- an enclosure by layers that only leaf cells draw on
abbrev pub LeafEnclosuresAreSeen : Type 0
LeafEnclosuresAreSeen = (layers : List Layer) (structs : List Structure) (rules : List Rule) (plan other : Organization) (kit : LayoutKit) (bits : BitCells) (f g : Floorplan) (wire : Wire) (by reach : ℤ) (here there : Zone) (from to : List Shape)
    → AreCompared (IsFlatShape layers structs) rules plan other kit bits f g wire by reach here there from
    → (listed : List ℕ) (min : ℤ) (a : Shape) → pos 1 ≤ℤ min → (min +ℤ (by +ℤ by)) ≤ℤ reach → HasLeavesOn a.layer (IsFlatShape layers structs) other kit bits g from
    → ((layer : ℕ) → Contains listed layer → HasLeavesOn layer (IsFlatShape layers structs) other kit bits g from) → ((layer : ℕ) → Contains listed layer → HasLeavesOn layer (IsFlatShape layers structs) plan kit bits f to) → IsInZone (IsFlatShape layers structs) plan kit bits f here a → IsEncloseSeen rules listed min to a
