use Rattle.std.proofs.Common.{◌≡◌, map, take}
use Rattle.spice_netlist.specs.Found.{found}
use Rattle.spice_netlist.specs.Resolved.{resolved_subckt}
use Rattle.spice_netlist.proofs.resolve.resolved_subckts.Given as goal

abbrev pub invariant-loop-subckt : goal.invariant-loop-subckt
invariant-loop-subckt l = l.resolved.items ≡ map (resolved_subckt l.top (found l.leaves) (found l.subckt_index)) (take l.subckt-index l.subckts)
