use Rattle.std.proofs.Common.{◌≡◌, ◌++◌}
use Rattle.sram_netlist.specs.Names.{with_index}
use Rattle.sram_netlist.specs.InstanceList.{tabulate}
use Rattle.port_lists.proofs.names.NameList.add_indexed.Given as goal

abbrev pub invariant-loop-index : goal.invariant-loop-index
invariant-loop-index l = l.self ≡ l.fn.self ++ tabulate l.index (with_index l.letters)
