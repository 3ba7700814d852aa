use Rattle.std.proofs.Common.{length}
use Rattle.spice_netlist.specs.Bad.{has_bad}
use Rattle.spice_netlist.proofs.TableLaws.{IsFilled}
use Rattle.spice_netlist.proofs.ports.bad_marks.Given as goal

abbrev pub invariant-loop-node : goal.invariant-loop-node
invariant-loop-node l = IsFilled (has_bad l.subckts) (length l.subckts) l.order l.marks.items l.node-index
