use Rattle.std.proofs.Common.{◌≡◌, ◌++◌, ◌-ℤ◌}
use Rattle.sram_netlist.specs.InstanceList.{tabulate}
use Rattle.sram_plan.specs.PlanNumbers.{organization}
use Rattle.macro_layout.specs.Places.{Floorplan}
use Rattle.macro_layout.specs.Cells.{sense_at}
use Rattle.floorplan.specs.LayoutOfKit.{layout_kit}
use Rattle.port_data.proofs.cell.add_senses.Given as goal

abbrev pub invariant-loop-bit : goal.invariant-loop-bit
invariant-loop-bit l = (floorplan : Floorplan) → l.y ≡ floorplan.sense_y -ℤ floorplan.write_y → l.instances.items ≡ l.fn.instances.items ++ tabulate l.bit (sense_at (organization l.plan) (layout_kit l.kit) floorplan)
