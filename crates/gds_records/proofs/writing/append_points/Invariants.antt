use Rattle.std.proofs.Common.{◌≡◌, ◌++◌, length}
use Rattle.std.specs.List.{AllByRecursion}
use Rattle.gds_records.specs.Values.{IsShort}
use Rattle.gds_records.specs.Writing.{points_bytes}
use Rattle.gds_records.proofs.writing.append_points.Given as goal

abbrev pub invariant-loop-point : goal.invariant-loop-point
invariant-loop-point l = record {
  bytes : l.out.items ++ points_bytes l.rest ≡ l.initial.out.items ++ points_bytes l.points;
  short : AllByRecursion IsShort l.rest;
}

abbrev pub decreases-loop-point : goal.decreases-loop-point
decreases-loop-point l = length l.rest
