use Rattle.std.proofs.Common.{arith}
use Rattle.bitcell_array.proofs.SideLaws.{few_product}
use Rattle.bitcell_array.proofs.part.product.Goals as goal

pub overflow_mul-result : goal.overflow_mul-result
overflow_mul-result c = let few = few_product c.args.count c.args.side c.requires.count c.requires.side in omega (arith, few)

pub returns-clause-few : goal.returns-clause-few
returns-clause-few c = few_product c.args.count c.args.side c.requires.count c.requires.side
