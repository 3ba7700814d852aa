use Rattle.std.proofs.Common.{◌≡◌, ◌++◌, List}
use Rattle.sram_netlist.specs.InstanceList.{tabulate}
use Rattle.sram_plan.specs.PlanNumbers.{organization}
use Rattle.sram_deck.specs.Deck.{array_row}
use Rattle.tech_rules.specs.declared.tech.RoleName.{RoleName}
use Rattle.port_lists.specs.Contents.{bit_cells}
use Rattle.bitcell_array.proofs.array_subckts.add_rows.Given as goal

abbrev pub invariant-loop-row : goal.invariant-loop-row
invariant-loop-row l = (roles : List RoleName) → l.instances.items ≡ l.fn.instances.items ++ tabulate l.row (array_row (organization l.plan) (bit_cells roles (organization l.plan) l.contents) l.name)
