use Rattle.std.proofs.Common.{◌≡◌, ◌++◌}
use Rattle.sram_netlist.specs.InstanceList.{tabulate}
use Rattle.sram_plan.specs.PlanNumbers.{organization}
use Rattle.macro_layout.specs.Cells.{precharge_at}
use Rattle.floorplan.specs.LayoutOfKit.{layout_kit}
use Rattle.bitcell_array.proofs.array_cells.add_precharges.Given as goal

abbrev pub invariant-loop-column : goal.invariant-loop-column
invariant-loop-column l = l.instances.items ≡ l.fn.instances.items ++ tabulate l.column (precharge_at (organization l.plan) (layout_kit l.kit))
