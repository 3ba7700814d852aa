use Rattle.std.proofs.Common.{◌≡◌, map, take}
use Rattle.spice_netlist.specs.Found.{found}
use Rattle.spice_netlist.specs.Resolved.{resolved_instance}
use Rattle.spice_netlist.proofs.resolve.resolved_instances.Given as goal

abbrev pub invariant-loop-instance : goal.invariant-loop-instance
invariant-loop-instance l = l.resolved.items ≡ map (resolved_instance (found l.subckt_index)) (take l.instance-index l.instances)
