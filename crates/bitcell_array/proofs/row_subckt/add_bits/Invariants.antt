use Rattle.std.proofs.Common.{◌≡◌, ◌++◌}
use Rattle.sram_netlist.specs.InstanceList.{tabulate}
use Rattle.sram_deck.specs.Deck.{row_bit}
use Rattle.sram_plan.specs.PlanNumbers.{organization}
use Rattle.port_lists.specs.Contents.{bit_cells}
use Rattle.bitcell_array.proofs.row_subckt.add_bits.Given as goal

abbrev pub invariant-loop-column : goal.invariant-loop-column
invariant-loop-column l = l.instances.items ≡ l.fn.instances.items ++ tabulate l.column (row_bit (bit_cells l.roles (organization l.plan) l.contents) l.row)
