-- A macro laid out and drawn: what is known of its nets' wires.
use Rattle.tech_rules.specs.declared.tech.Tech.{Tech}
use Rattle.cell_hierarchy.specs.Plain.{FlatLists}
use Rattle.sram_netlist.specs.Organization.{IsWritten}
use Rattle.good_wires.specs.Drawn.{IsDrawnMemory}
use Rattle.kit_nets.specs.StatedParts.{Source}
use Rattle.supply_nets.specs.LaidMacro.{IsLaidMacro}
use Rattle.wire_nets.specs.Named.{HasNamedNets}
use Rattle.good_wires.specs.Held.{DoRailsReach}

pub record IsWiredMacro (tech : Tech) (s : Source) (flat : FlatLists) : Type 0 where
  pub laid : IsLaidMacro tech s flat
  pub written : IsWritten s.plan
  pub reach : DoRailsReach s.plan s.kit s.wire s.tracks.column s.floorplan
  -- its wires are drawn, those of channels by one route each
  pub memory : IsDrawnMemory s.plan s.kit s.wire s.tracks s.floorplan
  pub named : HasNamedNets s.plan s.kit s.wire s.tracks s.floorplan memory
