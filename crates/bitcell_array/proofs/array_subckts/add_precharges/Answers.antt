-- A column more.
use Rattle.std.proofs.Common.{◌≡◌, ◌∙◌, arith}
use Rattle.sram_plan.specs.PlanNumbers.{numbers_of}
use Rattle.sram_deck.specs.Deck.{pre_column}
use Rattle.port_lists.specs.Cells.{cell_in}
use Rattle.port_lists.proofs.TabulateLaws.{grown_as, all_of}
use Rattle.port_lists.proofs.NumberLaws.{columns_are}
use Rattle.bitcell_array.proofs.array_subckts.add_precharges.Goals as goal

pub loop-column-preserved : goal.loop-column-preserved
loop-column-preserved c = grown_as _ _ _ _ c.loop-column.column (pre_column (cell_in c.args.roles.now)) c.loop-column.invariant c.in_ok-push.ensures.items (c.in_ok-leaf_instance.ensures)

pub returns : goal.returns
returns c = all_of _ _ c.loop-column.column _ (pre_column (cell_in c.args.roles.now)) c.loop-column.invariant (let far : c.loop-column.column ≡ c.args.plan.now.columns = omega arith in far ∙ columns_are (numbers_of c.args.plan.now) c.requires)
