use Rattle.std.proofs.Common.{◌≡◌}
use Rattle.sram_netlist.specs.Organization.{power_of_two}
use Rattle.port_lists.proofs.numbers.lines_of.Given as goal

abbrev pub invariant-loop : goal.invariant-loop
invariant-loop l = l.lines ≡ power_of_two l.counter
