-- The circuit of a netlist: of each leaf instance the nets that it looks at, drives and joins, by its role's ports.
use Rattle.std.specs.Prelude.{ℕ, zero, suc, List, [], ◌∷◌, map}
use Rattle.cell_roles.specs.LeafRoles.{leaf_input_ports, leaf_driven_ports, leaf_joined_ports}
use Rattle.sram_netlist.specs.Organization.{Organization}
use Rattle.sram_netlist.specs.Nets.{Net, Vdd}
use Rattle.sram_netlist.specs.Instances.{LeafInstance}
use Rattle.sram_netlist.specs.LeafNetlist.{LeafNetlist, read_write}
use Rattle.memory_laws.specs.Phase.{Circuit}

-- the net on a port by the port's number
abbrev pub net_on : List Net → ℕ → Net
net_on [] i = Vdd
net_on (x ∷ xs) zero = x
net_on (x ∷ xs) (suc i) = net_on xs i

abbrev pub nets_on : List Net → ℕ × ℕ → Net × Net
nets_on xs pair = (net_on xs pair.0, net_on xs pair.1)

-- the nets that the instance looks at, those that it may drive, and the pairs that it may join
abbrev pub input_nets : LeafNetlist → LeafInstance → List Net
input_nets netlist leaf = map (net_on (netlist.ports leaf)) (leaf_input_ports (netlist.role leaf))

abbrev pub driven_nets : LeafNetlist → LeafInstance → List Net
driven_nets netlist leaf = map (net_on (netlist.ports leaf)) (leaf_driven_ports (netlist.role leaf))

abbrev pub joined_nets : LeafNetlist → LeafInstance → List (Net × Net)
joined_nets netlist leaf = map (nets_on (netlist.ports leaf)) (leaf_joined_ports (netlist.role leaf))

abbrev pub netlist_circuit : LeafNetlist → Circuit
netlist_circuit netlist = record {
  has = netlist.has;
  knows = netlist.knows;
  role = netlist.role;
  looks = input_nets netlist;
  drives = driven_nets netlist;
  joins = joined_nets netlist;
}

-- the circuit of a read-write memory
abbrev pub circuit : Organization → Circuit
circuit plan = netlist_circuit (read_write plan)
