use Rattle.std.proofs.Common.{None, Some, ◌∙◌, sym}
use Rattle.std.specs.Cmp.{unsigned_Decides}
use Rattle.std.proofs.lemmas.Slice.Eq.{strip_prefix_is}
use Rattle.role_tables.proofs.CutLaws.{after_cut, make_cut}
use Rattle.role_tables.proofs.row.cut.Goals as goal

pub returns-in_err-rest-clause-none : goal.returns-in_err-rest-clause-none
returns-in_err-rest-clause-none c none column rest cut =
    let split = c.in_ok-column.ensures.cases in
    strip_prefix_is unsigned_Decides c.in_ok-column.rest.now c.args.separator.now None c.in_err-rest.ensures.cases rest
    (split.2 ∙ after_cut _ _ _ _ column rest cut)

pub returns-clause-some : goal.returns-clause-some
returns-clause-some c =
    let split = c.in_ok-column.ensures.cases in
    let behind = strip_prefix_is unsigned_Decides c.in_ok-column.rest.now c.args.separator.now (Some c.in_ok-rest.rest) c.in_ok-rest.ensures.cases in
    make_cut _ _ _ _ _ c.in_ok-column.rest.now _ split.1 split.2 behind split.3 (sym c.are_of.ensures ∙ c.if-not-are_of.false)
