use Rattle.std.proofs.Common.{◌≡◌, ◌++◌}
use Rattle.sram_netlist.specs.InstanceList.{tabulate}
use Rattle.sram_plan.specs.PlanNumbers.{organization}
use Rattle.sram_deck.specs.Deck.{data_sense}
use Rattle.port_lists.specs.Cells.{cell_in}
use Rattle.port_data.proofs.subckt.add_senses.Given as goal

abbrev pub invariant-loop-bit : goal.invariant-loop-bit
invariant-loop-bit l = l.instances.items ≡ l.fn.instances.items ++ tabulate l.bit (data_sense (organization l.plan) (cell_in l.roles))
