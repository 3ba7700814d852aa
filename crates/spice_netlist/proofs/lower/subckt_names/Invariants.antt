use Rattle.std.proofs.Common.{◌≡◌, take}
use Rattle.spice_netlist.specs.Resolved.{names_of}
use Rattle.spice_netlist.proofs.lower.subckt_names.Given as goal

abbrev pub invariant-loop-subckt : goal.invariant-loop-subckt
invariant-loop-subckt l = l.names.items ≡ names_of (take l.subckt-index l.subckts)
