use Rattle.spice_netlist.specs.Least.{IsLeastOf}
use Rattle.spice_netlist.proofs.LeastLaws.{IsBelow}
use Rattle.spice_netlist.proofs.MissingLaws.{IsMarkedAt}
use Rattle.spice_netlist.proofs.cycle.least_cyclic.Given as goal

abbrev pub invariant-loop-index : goal.invariant-loop-index
invariant-loop-index l = IsLeastOf (IsBelow (IsMarkedAt l.subckts l.marks.items) l.index) l.found
