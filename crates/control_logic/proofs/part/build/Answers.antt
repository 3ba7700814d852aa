use Rattle.std.proofs.Common.{ap, ◌∙◌}
use Rattle.netlist.specs.declared.deck.Subckt.{Subckt}
use Rattle.cell_builder.specs.declared.cell.DrawnCell.{DrawnCell}
use Rattle.cell_builder.specs.CellList.{with_drawn}
use Rattle.part_edges.specs.Additions.{with_subckt}
use Rattle.sram_plan.specs.PlanNumbers.{organization}
use Rattle.control_logic.proofs.part.build.Goals as goal

pub returns-clause-cells : goal.returns-clause-cells
returns-clause-cells c = c.in_ok-add_part.ensures.cells ∙ ap (λ (cell : DrawnCell). with_drawn cell c.args.cells.now) (c.in_ok-cell.ensures (organization c.args.plan.now) c.in_ok-row.ensures)

pub returns-clause-deck : goal.returns-clause-deck
returns-clause-deck c = c.in_ok-add_part.ensures.deck ∙ ap (λ (s : Subckt). with_subckt s c.args.deck.now) c.in_ok-subckt.ensures
