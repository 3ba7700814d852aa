use Rattle.std.proofs.Common.{◌≡◌}
use Rattle.port_lists.specs.Held.{held_of}
use Rattle.sram_netlist.specs.BitCells.{row_name}
use Rattle.sram_netlist.specs.InstanceList.{tabulate}
use Rattle.sram_macro.specs.Macro.{macro_bits}
use Rattle.sram_macro.proofs.names.row_names.Given as goal

abbrev pub invariant-loop-row : goal.invariant-loop-row
invariant-loop-row l = l.names.items ≡ tabulate l.row (row_name (macro_bits l.kit l.plan (held_of l.contents)) l.name)
