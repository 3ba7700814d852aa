use Rattle.sram_plan.specs.PlanNumbers.{numbers_of}
use Rattle.std.proofs.Common.{◌∙◌, ap, ◌+◌}
use Rattle.bitcell_array.proofs.SideLaws.{few_columns, width_is}
use Rattle.bitcell_array.proofs.part.width_of.Goals as goal

pub product-requires-clause-count : goal.product-requires-clause-count
product-requires-clause-count c = few_columns (numbers_of c.args.plan.now) c.requires.plan

pub returns-clause-is : goal.returns-clause-is
returns-clause-is c = λ kit of. ap (λ n. c.args.sides.now.gate_width + c.args.sides.now.driver_width + n) c.product.ensures.is ∙ width_is (numbers_of c.args.plan.now) c.requires.plan c.args.sides.now kit of
