use Rattle.or_geom.proofs.GatheringLaws.{IsAmongLeft}
use Rattle.role_tables.specs.Point.{MatchOnePoint}
use Rattle.role_tables.proofs.rows.shares_point_with_some.Given as goal

abbrev pub invariant-loop-other : goal.invariant-loop-other
invariant-loop-other l = IsAmongLeft (MatchOnePoint l.row) l.others l.other-index
