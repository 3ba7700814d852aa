use Rattle.std.proofs.Common.{◌≡◌}
use Rattle.cell_roles.specs.declared.role.Role.TheVariants.{Precharge}
use Rattle.sram_netlist.specs.InstanceList.{tabulate}
use Rattle.bank_layout.proofs.edges.precharge_roles.Given as goal

abbrev pub invariant-loop : goal.invariant-loop
invariant-loop l = l.roles.items ≡ tabulate l.counter (λ c. Precharge)
