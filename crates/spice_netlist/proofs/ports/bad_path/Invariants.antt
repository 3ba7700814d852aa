use Rattle.std.proofs.Common.{length}
use Rattle.spice_netlist.specs.Walk.{walk_at}
use Rattle.spice_netlist.proofs.BadLaws.{GoesOn}
use Rattle.spice_netlist.proofs.ports.bad_path.Given as goal

abbrev pub invariant-levels : goal.invariant-levels
invariant-levels l = GoesOn l.subckts l.fn.order l.top l.index l.path.items

abbrev pub decreases-levels : goal.decreases-levels
decreases-levels l = length (walk_at l.subckts l.index)
