use Rattle.std.proofs.Common.{◌≡◌}
use Rattle.sram_netlist.specs.InstanceList.{tabulate}
use Rattle.macro_layout.specs.Floorplan.{rail_x}
use Rattle.bank_layout.proofs.numbers.rail_xs.Given as goal

abbrev pub invariant-loop-rail : goal.invariant-loop-rail
invariant-loop-rail l = l.xs.items ≡ tabulate l.rail (rail_x l.wire)
