use Rattle.std.proofs.Common.{◌≡◌, ◌++◌}
use Rattle.sram_netlist.specs.InstanceList.{tabulate_lists}
use Rattle.port_data.specs.Pins.{column_lines}
use Rattle.port_data.proofs.top.add_column_lines.Given as goal

abbrev pub invariant-loop-column : goal.invariant-loop-column
invariant-loop-column l = l.pins.items ≡ l.fn.pins.items ++ tabulate_lists l.column (column_lines l.columns l.ends)
