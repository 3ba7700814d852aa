use Rattle.std.proofs.Common.{◌≡◌, ◌++◌}
use Rattle.port_lists.specs.Cells.{cell_in}
use Rattle.port_lists.specs.Contents.{bit_cells}
use Rattle.sram_deck.specs.Deck.{row_subckt}
use Rattle.sram_netlist.specs.InstanceList.{tabulate}
use Rattle.sram_plan.specs.PlanNumbers.{organization}
use Rattle.bitcell_array.proofs.part.add_row_subckts.Given as goal

abbrev pub invariant-loop-row : goal.invariant-loop-row
invariant-loop-row l = l.subckts ≡ l.fn.subckts ++ tabulate l.row (row_subckt (organization l.plan) (cell_in l.kit.tech.roles) (bit_cells l.kit.tech.roles (organization l.plan) l.contents) l.name)
