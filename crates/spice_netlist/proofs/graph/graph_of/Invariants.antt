use Rattle.std.proofs.Common.{◌≡◌, take}
use Rattle.spice_netlist.specs.Resolved.{graph}
use Rattle.spice_netlist.proofs.graph.graph_of.Given as goal

abbrev pub invariant-loop-subckt : goal.invariant-loop-subckt
invariant-loop-subckt l = l.list.items ≡ graph (take l.subckt-index l.subckts)
