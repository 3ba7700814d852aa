use Rattle.std.proofs.Common.{◌≡◌, ◌++◌}
use Rattle.sram_netlist.specs.InstanceList.{tabulate}
use Rattle.sram_plan.specs.PlanNumbers.{organization}
use Rattle.port_lists.specs.Contents.{bit_cells}
use Rattle.macro_layout.specs.Cells.{row_bit_at}
use Rattle.floorplan.specs.LayoutOfKit.{layout_kit}
use Rattle.bitcell_array.proofs.row_cell.add_bits.Given as goal

abbrev pub invariant-loop-column : goal.invariant-loop-column
invariant-loop-column l = l.instances.items ≡ l.fn.instances.items ++ tabulate l.column (row_bit_at (organization l.plan) (layout_kit l.kit) (bit_cells l.kit.tech.roles (organization l.plan) l.contents) l.row)
