-- In a wired macro the shapes of ports and the wires are joined with the hubs of their nets.
use Rattle.or_geom.specs.declared.shape.Shape.{Shape}
use Rattle.tech_rules.specs.declared.tech.Tech.{Tech}
use Rattle.cell_hierarchy.specs.Plain.{FlatLists}
use Rattle.sram_netlist.specs.Nets.{Net}
use Rattle.kit_nets.specs.StatedParts.{Source}
use Rattle.kit_nets.proofs.ArrayJoinLaws.{array_hub}
use Rattle.kit_nets.proofs.DataHubLaws.{data_hub}
use Rattle.macro_nets.proofs.OuterLaws.{outer_hubs}
use Rattle.macro_nets.proofs.PortHubLaws.{port_joined}
use Rattle.wired_macros.specs.WiredMacro.{IsWiredMacro}
use Rattle.wired_macros.proofs.WireJoinLaws.{wire_joined}
use Rattle.seen_labels.specs.Stay.{IsJoinedMemory}

module _ (tech : Tech) (s : Source) (flat : FlatLists) (d : IsWiredMacro tech s flat) where
  pub net_hub : Net → Shape
  net_hub net = array_hub s (data_hub s (outer_hubs tech s flat d.laid).0) net

  pub joined_memory : IsJoinedMemory tech.connects s flat net_hub
  unfolding net_hub
  joined_memory =
      let hubs = outer_hubs tech s flat d.laid in
      record {
        stated = d.laid.by;
        ports = λ i port net inner shape on bound moved. port_joined tech s flat d.laid d.reach d.written hubs.0 hubs.1 i.leaf i.has i.place i.stands port net on inner shape bound moved;
        wires = λ n shape stands. wire_joined tech s flat d hubs.0 hubs.1 n shape stands;
      }
