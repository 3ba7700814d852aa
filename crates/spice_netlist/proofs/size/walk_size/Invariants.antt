use Rattle.std.proofs.Common.{◌≡◌, take}
use Rattle.spice_netlist.specs.Walk.{visits_by, walk_at}
use Rattle.spice_netlist.specs.Sizes.{walk_size}
use Rattle.spice_netlist.proofs.size.walk_size.Given as goal

abbrev pub invariant-loop-instance : goal.invariant-loop-instance
invariant-loop-instance l = l.size ≡ walk_size l.subckts (visits_by l.subckts (walk_at l.subckts) (take l.instance-index l.instances))
