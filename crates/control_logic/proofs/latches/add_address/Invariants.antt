use Rattle.std.proofs.Common.{◌≡◌, ◌++◌, map}
use Rattle.sram_netlist.specs.InstanceList.{tabulate_lists}
use Rattle.sram_netlist.specs.InstanceList.{address_cells}
use Rattle.sram_plan.specs.PlanNumbers.{organization}
use Rattle.row_decoder.specs.Gates.{logic_gate}
use Rattle.port_lists.specs.Cells.{cell_in}
use Rattle.control_logic.proofs.latches.add_address.Given as goal

abbrev pub invariant-loop-bit : goal.invariant-loop-bit
invariant-loop-bit l = l.row.items ≡ l.fn.row.items ++ map (logic_gate (organization l.plan) (cell_in l.roles)) (tabulate_lists l.bit address_cells)
