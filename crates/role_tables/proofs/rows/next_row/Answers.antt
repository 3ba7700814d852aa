use Rattle.std.proofs.Common.{refl, subst}
use Rattle.or_geom.specs.Gathering.{SomeHas}
use Rattle.cell_roles.specs.Tables.{TableRow}
use Rattle.role_tables.specs.Point.{MatchOnePoint}
use Rattle.role_tables.proofs.CutLaws.{one_row}
use Rattle.role_tables.proofs.rows.next_row.Goals as goal

pub returns-then-shares_point_with_some-clause-none : goal.returns-then-shares_point_with_some-clause-none
returns-then-shares_point_with_some-clause-none c none row written =
    subst (λ (r : TableRow). SomeHas (MatchOnePoint r) c.args.before.now)
    (one_row c.args.role c.args.text.now c.in_ok-row.row row c.in_ok-row.ensures.some written) (c.if-shares_point_with_some.ensures.0 refl)
