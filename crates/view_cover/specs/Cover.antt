-- The boxes of a macro's LEF cover its layout.
use Rattle.std.specs.Prelude.{◌≡◌, ◌<◌, ℕ, Some, slice_index}
use Rattle.or_geom.specs.declared.shape.Shape.{Shape}
use Rattle.tech_rules.specs.declared.tech.Wire.{Wire}
use Rattle.cell_hierarchy.specs.FlatSet.{IsFlatShape}
use Rattle.sram_netlist.specs.Organization.{Organization}
use Rattle.sram_netlist.specs.BitCells.{BitCells}
use Rattle.sram_plan.specs.declared.view.Abstract.{Abstract}
use Rattle.leaf_tables.specs.declared.kit.Kit.{Kit}
use Rattle.leaf_tables.specs.Kits.{IsKit}
use Rattle.macro_layout.specs.Places.{Floorplan}
use Rattle.macro_layout.specs.Floorplan.{Tracks, IsFloorplan}
use Rattle.macro_layout.specs.Stated.{IsInMacro}
use Rattle.floorplan.specs.LayoutOfKit.{layout_kit}
use Rattle.macro_views.specs.Boxes.{IsCoveredOn}
use Rattle.port_data.specs.Column.{AreWideSlices}
use Rattle.view_cover.specs.View.{IsViewOf}
use Rattle.view_cover.specs.Bits.{AreBitsInside}

-- Each shape of the layout on a metal is covered by the LEF's boxes of this metal.
abbrev pub LefCoversLayout : Type 0
LefCoversLayout = (kit : Kit) (wire : Wire) (plan : Organization) (bits : BitCells) (tracks : Tracks) (floorplan : Floorplan) (view : Abstract) → IsKit kit → kit.tech.wire ≡ Some wire → AreBitsInside kit wire plan bits → AreWideSlices plan (layout_kit kit)
    → IsFloorplan plan (layout_kit kit) wire tracks floorplan → IsViewOf plan (layout_kit kit) wire tracks floorplan view
    → (metal : ℕ) (s : Shape) → metal < 4 → s.layer ≡ slice_index wire.metals metal → IsInMacro kit.tech.layers (IsFlatShape kit.tech.layers kit.lib.structs) plan (layout_kit kit) bits wire tracks floorplan s → IsCoveredOn view metal s.rect
