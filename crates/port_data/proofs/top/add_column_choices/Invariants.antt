use Rattle.std.proofs.Common.{◌≡◌, ◌++◌}
use Rattle.sram_netlist.specs.InstanceList.{tabulate}
use Rattle.port_data.specs.Pins.{column_choice}
use Rattle.port_data.proofs.top.add_column_choices.Given as goal

abbrev pub invariant-loop-column : goal.invariant-loop-column
invariant-loop-column l = l.pins.items ≡ l.fn.pins.items ++ tabulate l.column (column_choice l.columns l.left)
