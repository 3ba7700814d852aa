-- A row more.
use Rattle.std.proofs.Common.{◌≡◌, ◌∙◌, arith}
use Rattle.sram_plan.specs.PlanNumbers.{numbers_of}
use Rattle.sram_plan.specs.PlanNumbers.{organization}
use Rattle.sram_deck.specs.Deck.{array_row}
use Rattle.port_lists.specs.Contents.{bit_cells}
use Rattle.port_lists.proofs.TabulateLaws.{grown_as, all_of}
use Rattle.port_lists.proofs.NumberLaws.{rows_are}
use Rattle.bitcell_array.proofs.array_subckts.add_rows.Goals as goal

pub loop-row-preserved : goal.loop-row-preserved
loop-row-preserved c roles = grown_as _ _ _ _ c.loop-row.row (array_row (organization c.args.plan.now) (bit_cells roles (organization c.args.plan.now) c.args.contents) c.args.name.now) (c.loop-row.invariant roles) c.in_ok-push.ensures.items (c.in_ok-row_instance.ensures roles)

pub returns : goal.returns
returns c roles = all_of _ _ c.loop-row.row _ (array_row (organization c.args.plan.now) (bit_cells roles (organization c.args.plan.now) c.args.contents) c.args.name.now) (c.loop-row.invariant roles) (let far : c.loop-row.row ≡ c.args.plan.now.rows = omega arith in far ∙ rows_are (numbers_of c.args.plan.now) c.requires.numbers)
