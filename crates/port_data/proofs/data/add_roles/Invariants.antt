use Rattle.std.proofs.Common.{◌≡◌, ◌++◌}
use Rattle.sram_netlist.specs.InstanceList.{tabulate}
use Rattle.port_data.proofs.data.add_roles.Given as goal

abbrev pub invariant-loop : goal.invariant-loop
invariant-loop l = l.roles.items ≡ l.fn.roles.items ++ tabulate l.counter (λ k. l.role)
