use Rattle.std.proofs.Common.{◌≡◌, ◌++◌}
use Rattle.sram_netlist.specs.Names.{with_numbers}
use Rattle.sram_netlist.specs.InstanceList.{tabulate}
use Rattle.port_lists.proofs.names.NameList.add_numbered_twice.Given as goal

abbrev pub invariant-loop-second : goal.invariant-loop-second
invariant-loop-second l = l.self ≡ l.fn.self ++ tabulate l.second (with_numbers l.letters l.first)
