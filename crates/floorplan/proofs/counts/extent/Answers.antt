-- At most 2^24.
use Rattle.std.proofs.Common.{arith}
use Rattle.floorplan.proofs.CountLaws.{extent_bound, some_product}
use Rattle.floorplan.proofs.counts.extent.Goals as goal

pub overflow_mul-result : goal.overflow_mul-result
overflow_mul-result c = let few = extent_bound c.args.count c.args.side c.requires.few c.requires.side in omega (arith, few)

pub returns-clause-few : goal.returns-clause-few
returns-clause-few c = extent_bound c.args.count c.args.side c.requires.few c.requires.side

pub returns-clause-some : goal.returns-clause-some
returns-clause-some c first second = some_product c.args.count c.args.side first second
