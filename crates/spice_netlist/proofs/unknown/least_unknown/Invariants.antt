use Rattle.spice_netlist.specs.Least.{IsLeastOf}
use Rattle.spice_netlist.proofs.LeastLaws.{IsBelow}
use Rattle.spice_netlist.proofs.MissingLaws.{IsMissingAt}
use Rattle.spice_netlist.proofs.unknown.least_unknown.Given as goal

abbrev pub invariant-loop-index : goal.invariant-loop-index
invariant-loop-index l = IsLeastOf (IsBelow (IsMissingAt l.subckts l.marks) l.index) l.found
