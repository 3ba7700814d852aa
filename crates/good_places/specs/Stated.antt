-- The stated layout of a memory has, on layers without wires, the shapes of its leaf instances alone.
use Rattle.std.specs.Prelude.{◌⊎◌, ℕ, List}
use Rattle.gds_library.specs.declared.library.Structure.{Structure}
use Rattle.tech_rules.specs.declared.tech.Layer.{Layer}
use Rattle.tech_rules.specs.declared.tech.Wire.{Wire}
use Rattle.cell_hierarchy.specs.FlatSet.{IsFlatShape}
use Rattle.cell_hierarchy.specs.Plain.{FlatLists}
use Rattle.sram_netlist.specs.Organization.{Organization}
use Rattle.sram_netlist.specs.BitCells.{BitCells}
use Rattle.macro_layout.specs.LayoutKit.{LayoutKit}
use Rattle.macro_layout.specs.Places.{Floorplan}
use Rattle.macro_layout.specs.Floorplan.{Tracks}
use Rattle.macro_layout.specs.Wires.{IsWireInMacro}
use Rattle.macro_layout.specs.Stated.{AreStated, IsWireInBanks}
use Rattle.leaf_shapes.specs.FirstLayers.{AreFirstLayers}
use Rattle.good_places.specs.Leaves.{HasLeavesOn, HasLeavesAndWires}
use Rattle.leaf_shapes.specs.Outline.{IsWireLayer}
use Rattle.good_places.specs.Plain.{IsPlain}

-- On layers without wires it has the shapes of leaf instances alone.
abbrev pub StatedLeavesAlone : Type 0
StatedLeavesAlone = (layers : List Layer) (structs : List Structure) (plan : Organization) (kit : LayoutKit) (bits : BitCells) (wire : Wire) (tracks : Tracks) (f : Floorplan) (lists : FlatLists) → AreFirstLayers layers wire → AreStated layers structs plan kit bits wire tracks f lists
    → (layer : ℕ) → IsPlain wire layer → HasLeavesOn layer (IsFlatShape layers structs) plan kit bits f lists.shapes

-- On layers of wires it has those and the wires.
abbrev pub StatedLeavesAndWires : Type 0
StatedLeavesAndWires = (layers : List Layer) (structs : List Structure) (plan : Organization) (kit : LayoutKit) (bits : BitCells) (wire : Wire) (tracks : Tracks) (f : Floorplan) (lists : FlatLists) → AreFirstLayers layers wire → AreStated layers structs plan kit bits wire tracks f lists
    → (layer : ℕ) → IsWireLayer wire layer → HasLeavesAndWires layer (IsFlatShape layers structs) plan kit bits f (λ s. IsWireInMacro plan kit wire tracks f s ⊎ IsWireInBanks plan kit wire tracks f s) lists.shapes
