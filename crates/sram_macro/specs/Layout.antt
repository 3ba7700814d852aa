-- How a macro is laid out, and why it isn't.
use Rattle.std.specs.Prelude.{◌≡◌, ◌⊎◌, ℕ, ◌≤◌, pos, List, length, Some, Contains}
use Rattle.std.specs.List.Sorted.{IsStrictlySortedBy}
use Rattle.or_geom.specs.declared.shape.Shape.{Shape}
use Rattle.or_geom.specs.ShapeOrder.{shape_order}
use Rattle.tech_rules.specs.declared.tech.Wire.{Wire}
use Rattle.wire_drawing.specs.declared.route.RouteFault.{RouteFault}
use Rattle.wire_drawing.specs.declared.route.RouteFault.TheVariants as route_fault
use Rattle.channel_router.specs.declared.channel.Channel.{Channel}
use Rattle.channel_router.specs.declared.channel.Interval.{Interval}
use Rattle.channel_router.specs.declared.channel.Routed.{Routed}
use Rattle.channel_router.specs.Routed.{HasClosePins, IsRouted, AreFirstClosePins}
use Rattle.cell_roles.specs.declared.role.Role.TheVariants.{Inv}
use Rattle.sram_netlist.specs.Organization.{Organization}
use Rattle.leaf_tables.specs.declared.kit.Kit.{Kit}
use Rattle.leaf_tables.specs.declared.part.PartFault.{PartFault}
use Rattle.leaf_tables.specs.Parts.{of_route}
use Rattle.macro_layout.specs.LayoutKit.{LayoutKit}
use Rattle.macro_layout.specs.Places.{Floorplan}
use Rattle.macro_layout.specs.Floorplan.{Tracks, IsFloorplan}
use Rattle.macro_layout.specs.Pins.{main_nets}
use Rattle.macro_layout.specs.Channels.{ArePins, LeavesLeft, IsMainChannel}
use Rattle.floorplan.specs.LayoutOfKit.{layout_kit}
use Rattle.floorplan.specs.Sides.{AreLeafSides, AreSidesOf}
use Rattle.floorplan.specs.FloorplanNumbers.{floorplan_of, IsNearFloorplan}
use Rattle.floorplan.specs.Trunks.{IsBehind}
use Rattle.main_channel.specs.Formula.{main_channel}
use Rattle.main_channel.specs.Main.{IsNearMainChannel}
use Rattle.bank_layout.specs.Near.{IsDrawableWire}
use Rattle.bank_layout.specs.StatedWires.{AreWiresOfCell}
use Rattle.bank_layout.specs.BankTaps.{AreTapsApart, AreTapsRefused}
use Rattle.sram_macro.specs.declared.layout.Layout.{Layout}
use Rattle.sram_macro.specs.Extents.{AreExtents, AreNearExtents}

-- the main channel: that of each floorplan of the macro, whatever tracks the floorplan leaves room for; its pins are listed by formula
pub record IsMainOf (plan : Organization) (kit : LayoutKit) (wire : Wire) (ch : Channel) : Type 0 where
  pub formula : (tracks : Tracks) (floorplan : Floorplan) → IsFloorplan plan kit wire tracks floorplan → ch ≡ main_channel plan kit wire floorplan
  pub stated : (tracks : Tracks) (floorplan : Floorplan) → IsFloorplan plan kit wire tracks floorplan → IsMainChannel plan kit wire floorplan ch
  pub near : IsNearMainChannel ch
  pub nets : ch.nets ≡ length (main_nets plan)
  pub exits : ArePins ch.exits (LeavesLeft plan)
  pub low : ch.low ≡ pos (kit.height Inv)

-- it is routed, and none of its pins were too close
pub record IsMainRouted (plan : Organization) (kit : LayoutKit) (wire : Wire) (routed : Routed) : Type 0 where
  pub channel : Channel
  pub is : IsMainOf plan kit wire channel
  pub intervals : List Interval
  pub routed_as : IsRouted channel wire intervals routed
  pub apart : HasClosePins channel wire → ⊥
  pub few : routed.tracks ≤ 4096

-- its pins are too close, or memory ran out
abbrev pub IsMainFault : Organization → LayoutKit → Wire → RouteFault → Type 0
IsMainFault plan kit wire route_fault.Memory = Unit {0}
IsMainFault plan kit wire (route_fault.TapsClose first second) = ⊥
IsMainFault plan kit wire (route_fault.Close side first second) = (ch : Channel) × IsMainOf plan kit wire ch × AreFirstClosePins ch wire side first second

-- The macro stands on a floorplan with the tracks of both channels, its ends are behind it, the wires of a bank can be drawn, and
-- the main channel is routed.
pub record IsMacroLayout (kit : Kit) (plan : Organization) (column : Routed) (layout : Layout) : Type 0 where
  pub wire : Wire
  pub wired : kit.tech.wire ≡ Some wire
  pub sides : AreLeafSides layout.sides
  pub sides_of : AreSidesOf plan (layout_kit kit) layout.sides
  pub stands : IsFloorplan plan (layout_kit kit) wire (record { main = layout.main.tracks; column = column.tracks }) (floorplan_of layout.floorplan)
  pub near : IsNearFloorplan layout.floorplan
  pub ends : AreExtents plan (layout_kit kit) wire (floorplan_of layout.floorplan) layout.ends
  pub near_ends : AreNearExtents layout.ends
  pub power : IsBehind layout.sides layout.floorplan layout.ends.power_x
  pub ground : IsBehind layout.sides layout.floorplan layout.ends.ground_x
  -- the wires of a bank, each once and in order
  pub bank_rises : IsStrictlySortedBy shape_order layout.bank.items
  pub bank : (s : Shape) → Contains layout.bank.items s → IsDrawableWire wire s
  pub bank_wires : AreWiresOfCell plan (layout_kit kit) wire column.tracks (floorplan_of layout.floorplan) layout.bank.items
  -- no taps of a bank are too close
  pub taps_apart : AreTapsApart kit.leaves plan (layout_kit kit) wire (floorplan_of layout.floorplan) column.track
  pub main : IsMainRouted plan (layout_kit kit) wire layout.main

-- no taps of a bank are too close, and pins of the main channel are
pub record IsMainRefused (kit : Kit) (plan : Organization) (wire : Wire) (column : Routed) (fault : PartFault) : Type 0 where
  pub tracks : ℕ
  pub floorplan : Floorplan
  pub stands : IsFloorplan plan (layout_kit kit) wire (record { main = tracks; column = column.tracks }) floorplan
  pub apart : AreTapsApart kit.leaves plan (layout_kit kit) wire floorplan column.track
  pub route : RouteFault
  pub is : IsMainFault plan (layout_kit kit) wire route
  pub same : fault ≡ of_route route

-- taps of a bank are too close, or else pins of the main channel
abbrev pub IsMacroLayoutFault : Kit → Organization → Routed → PartFault → Type 0
IsMacroLayoutFault kit plan column fault = (wire : Wire) × (kit.tech.wire ≡ Some wire) × (AreTapsRefused kit plan wire column fault ⊎ IsMainRefused kit plan wire column fault)
