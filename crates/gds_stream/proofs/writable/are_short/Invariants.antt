use Rattle.std.proofs.Common.{length, ◌↔◌}
use Rattle.std.specs.List.{AllByRecursion}
use Rattle.gds_records.specs.Values.{IsShort}
use Rattle.gds_stream.proofs.writable.are_short.Given as goal

abbrev pub invariant-loop-point : goal.invariant-loop-point
invariant-loop-point l = AllByRecursion IsShort l.rest ↔ AllByRecursion IsShort l.points

abbrev pub decreases-loop-point : goal.decreases-loop-point
decreases-loop-point l = length l.rest
