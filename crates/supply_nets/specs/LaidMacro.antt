-- A macro of a kit, laid out with its channels routed: what is known of it before its nets are joined.
use Rattle.tech_rules.specs.declared.tech.Tech.{Tech}
use Rattle.tech_rules.specs.Facts.{AreSizes}
use Rattle.cell_hierarchy.specs.Plain.{FlatLists}
use Rattle.sram_netlist.specs.Organization.{IsBuildable}
use Rattle.macro_layout.specs.Floorplan.{IsFloorplan}
use Rattle.macro_layout.specs.Channels.{IsColumnChannel, IsMainChannel}
use Rattle.good_places.specs.Leaves.{FitsZones}
use Rattle.good_wires.specs.Drawn.{PinsFit}
use Rattle.joined_nets.specs.Joints.{JoinsWires}
use Rattle.kit_nets.specs.StatedParts.{Source, IsStatedBy}
use Rattle.kit_nets.specs.RolePins.{AreRolePins}
use Rattle.kit_nets.specs.DrawnChannels.{IsDrawnChannel}
use Rattle.leaf_shapes.specs.FirstLayers.{AreFirstLayers}

pub record IsLaidMacro (tech : Tech) (s : Source) (flat : FlatLists) : Type 0 where
  -- the layout is stated so, on the layers of its wires
  pub by : IsStatedBy tech.connects s flat
  pub joins : JoinsWires tech.connects s.wire
  pub sizes : AreSizes s.wire
  pub first : AreFirstLayers s.layers s.wire
  -- pins are drawn as demanded, inside of their cells, which fit
  pub pins : AreRolePins s
  pub inside : PinsFit s.kit s.wire
  pub fits : FitsZones s.plan s.kit
  -- the plan, its floorplan, and its two channels
  pub build : IsBuildable s.plan
  pub floor : IsFloorplan s.plan s.kit s.wire s.tracks s.floorplan
  pub main : IsDrawnChannel (IsMainChannel s.plan s.kit s.wire s.floorplan) s.wire s.tracks.main
  pub column : IsDrawnChannel (IsColumnChannel s.plan s.kit s.wire s.floorplan) s.wire s.tracks.column
