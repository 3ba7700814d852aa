use Rattle.std.proofs.Common.{◌≡◌, ◌++◌}
use Rattle.sram_netlist.specs.InstanceList.{tabulate}
use Rattle.sram_deck.specs.Deck.{pre_column}
use Rattle.port_lists.specs.Cells.{cell_in}
use Rattle.bitcell_array.proofs.array_subckts.add_precharges.Given as goal

abbrev pub invariant-loop-column : goal.invariant-loop-column
invariant-loop-column l = l.instances.items ≡ l.fn.instances.items ++ tabulate l.column (pre_column (cell_in l.roles))
