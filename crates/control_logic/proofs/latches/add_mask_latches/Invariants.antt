use Rattle.std.proofs.Common.{◌≡◌, ◌++◌, map}
use Rattle.sram_netlist.specs.InstanceList.{tabulate}
use Rattle.sram_netlist.specs.Instances.{Dm}
use Rattle.sram_plan.specs.PlanNumbers.{organization}
use Rattle.row_decoder.specs.Gates.{logic_gate}
use Rattle.port_lists.specs.Cells.{cell_in}
use Rattle.control_logic.proofs.latches.add_mask_latches.Given as goal

abbrev pub invariant-loop-mask : goal.invariant-loop-mask
invariant-loop-mask l = l.row.items ≡ l.fn.row.items ++ map (logic_gate (organization l.plan) (cell_in l.roles)) (tabulate l.mask Dm)
