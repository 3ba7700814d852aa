use Rattle.std.proofs.Common.{◌∙◌, sym}
use Rattle.std.proofs.lemmas.Bool.{eqb-true}
use Rattle.role_tables.proofs.FitLaws.{all_allow_one, fit_one_from_all, fit_one_long}
use Rattle.role_tables.proofs.row.fit_one.Goals as goal

pub returns-then-a-b : goal.returns-then-a-b
returns-then-a-b c = (
  (λ is. fit_one_from_all c.args.a.now c.args.b.now c.if-a-b.true (sym c.all_allow_one.ensures ∙ is)),
  (λ fit. c.all_allow_one.ensures ∙ all_allow_one c.args.a.now c.args.b.now fit.values fit.first fit.second),
)

pub returns-else-a-b : goal.returns-else-a-b
returns-else-a-b c = (
  (λ is. absurd (c.if-a-b.false (eqb-true _ _ is))),
  (λ fit. absurd (c.if-a-b.false (fit_one_long c.args.a.now c.args.b.now fit))),
)
