use Rattle.std.proofs.Common.{◌≡◌, drop}
use Rattle.spice_netlist.specs.Bad.{bad_in}
use Rattle.spice_netlist.proofs.ports.bad_instance.Given as goal

abbrev pub invariant-loop-instance : goal.invariant-loop-instance
invariant-loop-instance l = bad_in l.subckts l.instances ≡ bad_in l.subckts (drop l.instance-index l.instances)
