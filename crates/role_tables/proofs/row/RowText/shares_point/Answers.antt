use Rattle.std.proofs.Common.{subst}
use Rattle.std.specs.Prelude.{IsTrue}
use Rattle.cell_roles.specs.Tables.{TableRow}
use Rattle.role_tables.specs.Columns.{columns_row}
use Rattle.role_tables.specs.Point.{MatchOnePoint}
use Rattle.role_tables.proofs.MatchLaws.{match_one, stored_one}
use Rattle.role_tables.proofs.row.RowText.shares_point.Goals as goal

pub returns-then-fit_one : goal.returns-then-fit_one
returns-then-fit_one c =
    let result = c.fit_one-then-fit_one.result in
    let first = columns_row c.self.inside in
    let second = columns_row c.other.inside in
    let Q : TableRow → TableRow → Type 0 = λ a b. (IsTrue result → MatchOnePoint a b) × (MatchOnePoint a b → IsTrue result) in
    subst (λ (a : TableRow). Q a c.args.other.now) c.self.view_is
    (subst (λ (b : TableRow). Q first b) c.other.view_is (
      (λ is. match_one first second (c.fit_one.ensures.0 c.if-fit_one.true) (c.fit_one-then-fit_one.ensures.0 is)),
      (λ both. c.fit_one-then-fit_one.ensures.1 (stored_one first second both)),
    ))
