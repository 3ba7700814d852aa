use Rattle.std.proofs.Common.{◌≡◌, ◌++◌}
use Rattle.sram_netlist.specs.InstanceList.{tabulate}
use Rattle.sram_plan.specs.PlanNumbers.{organization}
use Rattle.sram_deck.specs.Deck.{data_mux}
use Rattle.port_lists.specs.Cells.{cell_in}
use Rattle.port_data.proofs.subckt.add_multiplexers.Given as goal

abbrev pub invariant-loop-column : goal.invariant-loop-column
invariant-loop-column l = l.instances.items ≡ l.fn.instances.items ++ tabulate l.column (data_mux (organization l.plan) (cell_in l.roles))
