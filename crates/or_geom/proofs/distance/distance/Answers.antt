use Rattle.std.proofs.Common.{arith}
use Rattle.std.proofs.lemmas.Int.{ints}
use Rattle.or_geom.proofs.DistanceLaws.{distance_before, distance_after, distance_none}
use Rattle.or_geom.proofs.distance.distance.Goals as goal

pub returns-then-a-b-clause-least : goal.returns-then-a-b-clause-least
returns-then-a-b-clause-least c = distance_before _ _ _ (omega (arith, ints)) (omega (arith, ints))

pub returns-then-b-a-clause-least : goal.returns-then-b-a-clause-least
returns-then-b-a-clause-least c = distance_after _ _ _ (omega (arith, ints)) (omega (arith, ints))

pub returns-else-b-a-clause-least : goal.returns-else-b-a-clause-least
returns-else-b-a-clause-least c = distance_none _ _ (omega (arith, ints)) (omega (arith, ints))
