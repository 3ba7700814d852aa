use Rattle.std.proofs.Common.{◌≡◌, length}
use Rattle.gds_records.specs.Values.{points_from}
use Rattle.gds_records.proofs.PointLists.{after_front}
use Rattle.gds_records.proofs.points.points_in.Given as goal

abbrev pub invariant-loop-point : goal.invariant-loop-point
invariant-loop-point l = after_front l.points.items (points_from l.rest) ≡ points_from l.content

abbrev pub decreases-loop-point : goal.decreases-loop-point
decreases-loop-point l = length l.rest
