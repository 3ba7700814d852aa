use Rattle.std.proofs.Common.{take}
use Rattle.gds_stream.specs.Bounds.{HoldsPoints}
use Rattle.gds_stream.proofs.bounds.bounds_of.Given as goal

abbrev pub invariant-loop-point : goal.invariant-loop-point
invariant-loop-point l = HoldsPoints l.bounds (take l.point-index l.points)
