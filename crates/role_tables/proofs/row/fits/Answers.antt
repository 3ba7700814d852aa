use Rattle.std.proofs.Common.{◌∙◌, sym}
use Rattle.std.proofs.lemmas.Bool.{ne_eqb}
use Rattle.role_tables.proofs.FitLaws.{fits_all, fits_not}
use Rattle.role_tables.proofs.row.fits.Goals as goal

pub returns-then-wanted-values : goal.returns-then-wanted-values
returns-then-wanted-values c = c.all_allow.ensures ∙ sym (fits_all c.args.wanted.now c.args.values.now c.if-wanted-values.true)

pub returns-else-wanted-values : goal.returns-else-wanted-values
returns-else-wanted-values c =
    ne_eqb _ _ c.if-wanted-values.false ∙ sym (fits_not c.args.wanted.now c.args.values.now c.if-wanted-values.false)
