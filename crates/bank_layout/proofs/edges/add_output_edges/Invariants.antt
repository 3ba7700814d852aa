use Rattle.std.proofs.Common.{◌≡◌, ◌++◌}
use Rattle.sram_netlist.specs.Organization.{words_per_row}
use Rattle.sram_netlist.specs.InstanceList.{tabulate}
use Rattle.sram_plan.specs.PlanNumbers.{organization}
use Rattle.bank_layout.specs.BankEdges.{output_edge}
use Rattle.bank_layout.proofs.edges.add_output_edges.Given as goal

abbrev pub invariant-loop-bit : goal.invariant-loop-bit
invariant-loop-bit l = l.edges.items ≡ l.fn.edges.items ++ tabulate l.bit (output_edge l.first (words_per_row (organization l.plan)) l.width)
