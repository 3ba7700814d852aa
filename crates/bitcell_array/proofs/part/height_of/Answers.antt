use Rattle.sram_plan.specs.PlanNumbers.{numbers_of}
use Rattle.std.proofs.Common.{◌∙◌}
use Rattle.bitcell_array.proofs.SideLaws.{few_rows, height_is}
use Rattle.bitcell_array.proofs.part.height_of.Goals as goal

pub product-requires-clause-count : goal.product-requires-clause-count
product-requires-clause-count c = few_rows (numbers_of c.args.plan.now) c.requires.plan

pub returns-clause-is : goal.returns-clause-is
returns-clause-is c = λ kit of. c.product.ensures.is ∙ height_is (numbers_of c.args.plan.now) c.requires.plan c.args.sides.now kit of
