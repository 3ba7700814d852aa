-- The first column of a bit of the word.
use Rattle.std.proofs.Common.{◌≤◌, ◌*◌, ℕ, ap, ◌∙◌, zero-add, arith}
use Rattle.sram_plan.specs.PlanNumbers.{numbers_of}
use Rattle.port_lists.proofs.NumberLaws.{words_are}
use Rattle.floorplan.proofs.PlaceLaws.{few_before}
use Rattle.port_data.proofs.cell.slice_x.Goals as goal

pub overflow_mul-bit : goal.overflow_mul-bit
overflow_mul-bit c = let few : c.args.bit * c.args.plan.now.wpr ≤ 256 = few_before (numbers_of c.args.plan.now) c.requires.plan c.args.bit c.requires.bit in omega (arith, few)

pub column_x-requires-clause-column : goal.column_x-requires-clause-column
column_x-requires-clause-column c = let few : c.args.bit * c.args.plan.now.wpr ≤ 256 = few_before (numbers_of c.args.plan.now) c.requires.plan c.args.bit c.requires.bit in omega (arith, few)

pub returns : goal.returns
returns c = c.column_x.ensures ∙ (zero-add _ ∙ ap (λ (words : ℕ). c.args.bit * words * c.args.width) (words_are (numbers_of c.args.plan.now) c.requires.plan))
