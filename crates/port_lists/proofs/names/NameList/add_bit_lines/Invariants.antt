use Rattle.std.proofs.Common.{◌≡◌, ◌++◌}
use Rattle.sram_netlist.specs.InstanceList.{tabulate_lists}
use Rattle.sram_deck.specs.Deck.{column_bit_lines}
use Rattle.port_lists.proofs.names.NameList.add_bit_lines.Given as goal

abbrev pub invariant-loop-column : goal.invariant-loop-column
invariant-loop-column l = l.self ≡ l.fn.self ++ tabulate_lists l.column column_bit_lines
