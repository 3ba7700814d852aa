use Rattle.std.proofs.Common.{refl}
use Rattle.or_geom.proofs.GatheringLaws.{among_found}
use Rattle.role_tables.specs.Point.{MatchOnePoint}
use Rattle.role_tables.proofs.rows.shares_point_with_some.Goals as goal

pub returns-then-shares_point : goal.returns-then-shares_point
returns-then-shares_point c = (
  λ _. among_found (MatchOnePoint c.args.row.now) c.args.others.now c.loop-other.other-index c.other-item.result c.loop-other-test.true c.other-item.is (c.if-shares_point.ensures.0 refl),
  λ _. refl,
)
