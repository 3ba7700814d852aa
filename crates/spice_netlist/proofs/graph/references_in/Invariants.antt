use Rattle.std.proofs.Common.{◌≡◌, take}
use Rattle.spice_netlist.specs.Resolved.{subckt_references}
use Rattle.spice_netlist.proofs.graph.references_in.Given as goal

abbrev pub invariant-loop-instance : goal.invariant-loop-instance
invariant-loop-instance l = l.list.items ≡ subckt_references (take l.instance-index l.instances)
