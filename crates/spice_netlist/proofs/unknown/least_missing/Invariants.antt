use Rattle.std.proofs.Common.{take}
use Rattle.spice_netlist.specs.Least.{IsLeastOf, IsMissingIn}
use Rattle.spice_netlist.proofs.unknown.least_missing.Given as goal

abbrev pub invariant-loop-instance : goal.invariant-loop-instance
invariant-loop-instance l = IsLeastOf (IsMissingIn (take l.instance-index l.instances)) l.found
