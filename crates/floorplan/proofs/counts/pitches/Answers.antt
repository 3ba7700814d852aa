-- At most 2^17 each.
use Rattle.std.proofs.Common.{arith}
use Rattle.floorplan.proofs.CountLaws.{pitches_bound, pitches_are}
use Rattle.floorplan.proofs.counts.pitches.Goals as goal

pub overflow_mul-result : goal.overflow_mul-result
overflow_mul-result c = let few = pitches_bound c.args.count c.pitch.result c.pitch.ensures.few in let count = c.requires.few in omega (arith, few, count)

pub returns-clause-value : goal.returns-clause-value
returns-clause-value c = pitches_are c.args.count c.pitch.result _ c.pitch.ensures.value

pub returns-clause-few : goal.returns-clause-few
returns-clause-few c = pitches_bound c.args.count c.pitch.result c.pitch.ensures.few
