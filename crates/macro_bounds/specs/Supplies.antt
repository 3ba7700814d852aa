-- The wires that no router draws are near, and the macro's labels can be written.
use Rattle.std.specs.Prelude.{◌⊎◌, ◌+◌, ◌^◌, ◌<◌, ◌-ℤ◌, pos, List, length}
use Rattle.or_geom.specs.declared.shape.Shape.{Shape}
use Rattle.tech_rules.specs.declared.tech.Layer.{Layer}
use Rattle.tech_rules.specs.declared.tech.Wire.{Wire}
use Rattle.tech_rules.specs.Facts.{IsWire}
use Rattle.cell_builder.specs.declared.cell.PlacedLabel.{PlacedLabel}
use Rattle.cell_builder.specs.Writable.{IsWritableText}
use Rattle.sram_netlist.specs.Organization.{Organization, IsBuildable}
use Rattle.macro_layout.specs.LayoutKit.{LayoutKit}
use Rattle.macro_layout.specs.Places.{Floorplan}
use Rattle.macro_layout.specs.Floorplan.{Tracks}
use Rattle.macro_layout.specs.Stated.{IsShifted}
use Rattle.macro_layout.specs.Wires.{IsWriteJoiner, IsCornerJoiner, IsPowerWire, IsGroundWire, IsLabelInMacro}
use Rattle.macro_bounds.specs.Near.{IsWireShape, IsSevenLayerWire}
use Rattle.macro_bounds.specs.Floorplans.{IsSmallKit, IsFloorplanWithin, AreFewTracks}

-- a memory of small leaf cells on a near floorplan
pub record IsNearMacro (plan : Organization) (kit : LayoutKit) (wire : Wire) (floorplan : Floorplan) : Type 0 where
  pub buildable : IsBuildable plan
  pub small : IsSmallKit kit
  pub wires : IsSevenLayerWire wire
  pub near : IsFloorplanWithin floorplan

-- The wires of vdd and gnd lie within 2^30 + 2^25.
abbrev pub SupplyWiresAreNear : Type 0
SupplyWiresAreNear = (plan : Organization) (kit : LayoutKit) (wire : Wire) (floorplan : Floorplan) → IsNearMacro plan kit wire floorplan → (s : Shape) → IsPowerWire plan kit wire floorplan s ⊎ IsGroundWire plan kit wire floorplan s → IsWireShape wire (2 ^ 30 + 2 ^ 25) s

-- So do a bank's joiners, seen from its lower edge.
abbrev pub JoinersAreNear : Type 0
JoinersAreNear = (plan : Organization) (kit : LayoutKit) (wire : Wire) (floorplan : Floorplan) → IsNearMacro plan kit wire floorplan → (s t : Shape) → IsWriteJoiner plan kit wire floorplan s ⊎ IsCornerJoiner plan kit wire floorplan s
    → IsShifted (pos 0) (pos 0 -ℤ floorplan.write_y) s t → IsWireShape wire (2 ^ 30 + 2 ^ 25) t

-- The macro's labels can be written.
abbrev pub LabelsAreWritable : Type 0
LabelsAreWritable = (plan : Organization) (kit : LayoutKit) (wire : Wire) (tracks : Tracks) (floorplan : Floorplan) → IsNearMacro plan kit wire floorplan → AreFewTracks tracks → (label : PlacedLabel) → IsLabelInMacro plan kit wire tracks floorplan label → IsWritableText label

-- They are on layers that are there.
abbrev pub LabelsHaveLayers : Type 0
LabelsHaveLayers = (layers : List Layer) (plan : Organization) (kit : LayoutKit) (wire : Wire) (tracks : Tracks) (floorplan : Floorplan) → IsWire layers wire → (label : PlacedLabel) → IsLabelInMacro plan kit wire tracks floorplan label → label.layer < length layers
