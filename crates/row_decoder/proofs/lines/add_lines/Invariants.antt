use Rattle.std.proofs.Common.{◌≡◌, ◌++◌, map}
use Rattle.sram_netlist.specs.InstanceList.{tabulate_lists, line_gates}
use Rattle.sram_plan.specs.PlanNumbers.{organization}
use Rattle.row_decoder.specs.Gates.{logic_gate}
use Rattle.port_lists.specs.Cells.{cell_in}
use Rattle.row_decoder.proofs.lines.add_lines.Given as goal

abbrev pub invariant-loop-number : goal.invariant-loop-number
invariant-loop-number l = l.row.items ≡ l.fn.row.items ++ map (logic_gate (organization l.plan) (cell_in l.roles)) (tabulate_lists l.number (line_gates l.lines.low l.lines.bits))
