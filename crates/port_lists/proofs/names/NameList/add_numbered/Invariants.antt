use Rattle.std.proofs.Common.{◌≡◌, ◌++◌}
use Rattle.sram_netlist.specs.Names.{with_number}
use Rattle.sram_netlist.specs.InstanceList.{tabulate}
use Rattle.port_lists.proofs.names.NameList.add_numbered.Given as goal

abbrev pub invariant-loop-number : goal.invariant-loop-number
invariant-loop-number l = l.self ≡ l.fn.self ++ tabulate l.number (with_number l.letters)
