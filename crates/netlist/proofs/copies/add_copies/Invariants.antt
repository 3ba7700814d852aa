use Rattle.std.proofs.Common.{◌≡◌, ◌++◌, take}
use Rattle.netlist.proofs.copies.add_copies.Given as goal

abbrev pub invariant-loop-subckt : goal.invariant-loop-subckt
invariant-loop-subckt l = l.copies.items ≡ l.fn.copies.items ++ take l.subckt-index l.subckts
