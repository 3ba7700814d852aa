use Rattle.std.proofs.Common.{◌≡◌, ◌++◌}
use Rattle.sram_netlist.specs.InstanceList.{tabulate}
use Rattle.sram_plan.specs.PlanNumbers.{organization}
use Rattle.port_lists.specs.Contents.{bit_cells}
use Rattle.macro_layout.specs.Cells.{row_at}
use Rattle.floorplan.specs.LayoutOfKit.{layout_kit}
use Rattle.bitcell_array.proofs.array_cells.add_rows.Given as goal

abbrev pub invariant-loop-row : goal.invariant-loop-row
invariant-loop-row l = l.instances.items ≡ l.fn.instances.items ++ tabulate l.row (row_at (layout_kit l.kit) (bit_cells l.kit.tech.roles (organization l.plan) l.contents) l.name)
