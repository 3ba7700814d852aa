-- At most 256 columns.
use Rattle.std.proofs.Common.{◌≤◌, ◌*◌, ℕ, ap, arith}
use Rattle.sram_plan.specs.PlanNumbers.{numbers_of}
use Rattle.port_lists.proofs.NumberLaws.{words_are}
use Rattle.bank_layout.proofs.CountLaws.{few_before}
use Rattle.bank_layout.proofs.numbers.first_column.Goals as goal

pub overflow_mul-result : goal.overflow_mul-result
overflow_mul-result c = let few : c.args.bit * c.args.plan.now.wpr ≤ 256 = few_before (numbers_of c.args.plan.now) c.requires.plan c.args.bit c.requires.bit in omega (arith, few)

pub returns-clause-is : goal.returns-clause-is
returns-clause-is c = ap (λ (words : ℕ). c.args.bit * words) (words_are (numbers_of c.args.plan.now) c.requires.plan)

pub returns-clause-few : goal.returns-clause-few
returns-clause-few c = few_before (numbers_of c.args.plan.now) c.requires.plan c.args.bit c.requires.bit
