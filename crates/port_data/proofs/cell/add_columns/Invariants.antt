use Rattle.std.proofs.Common.{◌≡◌, ◌++◌, ◌-ℤ◌}
use Rattle.sram_netlist.specs.InstanceList.{tabulate}
use Rattle.sram_plan.specs.PlanNumbers.{organization}
use Rattle.macro_layout.specs.Places.{Floorplan}
use Rattle.macro_layout.specs.Cells.{column_at}
use Rattle.floorplan.specs.LayoutOfKit.{layout_kit}
use Rattle.port_data.proofs.cell.add_columns.Given as goal

abbrev pub invariant-loop-column : goal.invariant-loop-column
invariant-loop-column l = (floorplan : Floorplan) → l.y ≡ floorplan.column_y -ℤ floorplan.write_y → l.instances.items ≡ l.fn.instances.items ++ tabulate l.column (column_at (organization l.plan) (layout_kit l.kit) floorplan)
