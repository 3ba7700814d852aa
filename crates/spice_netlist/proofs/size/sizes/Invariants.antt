use Rattle.std.proofs.Common.{length}
use Rattle.spice_netlist.specs.Walk.{walk_at}
use Rattle.spice_netlist.specs.Sizes.{walk_size}
use Rattle.spice_netlist.proofs.TableLaws.{IsFilled}
use Rattle.spice_netlist.proofs.size.sizes.Given as goal

abbrev pub invariant-loop-node : goal.invariant-loop-node
invariant-loop-node l = IsFilled (λ index. walk_size l.subckts (walk_at l.subckts index)) (length l.subckts) l.order l.sizes.items l.node-index
