use Rattle.std.proofs.Common.{◌≡◌, ◌+◌, ◌∙◌, sym, ap, arith, []}
use Rattle.std.proofs.lemmas.List.{nil_from_length}
use Rattle.spice_text.specs.Lines.{is_lf, without_cr}
use Rattle.spice_text.proofs.LineLaws.{place_within, cut_before, cut_last}
use Rattle.spice_text.proofs.line.cut_line.Goals as goal

pub split_at-requires : goal.split_at-requires
split_at-requires c = let near = place_within is_lf c.args.source.rest.now in omega (arith, c.line_length-length.ensures, near)

pub returns-in-Some-clause-parts : goal.returns-in-Some-clause-parts
returns-in-Some-clause-parts c =
    cut_before c.args.source.rest.now c.in-Some.field-0-0.now c.in-Some.rest.now (c.args.source.lines + 1) c.args.source.before c.line_length-length.result c.without_return.result.now c.line_length-length.ensures
    (c.without_return.ensures ∙ ap without_cr c.split_at.ensures.front) (sym c.split_at.ensures.back ∙ c.in-Some.ensures.cases.0)

pub returns-in-None-clause-parts : goal.returns-in-None-clause-parts
returns-in-None-clause-parts c =
    let none : c.split_at.result.1.now ≡ [] = nil_from_length c.split_at.result.1.now c.in-None.ensures.cases in
    cut_last c.args.source.rest.now c.split_at.result.1.now (c.args.source.lines + 1) c.args.source.before c.line_length-length.result c.without_return.result.now c.line_length-length.ensures
    (c.without_return.ensures ∙ ap without_cr c.split_at.ensures.front) (sym c.split_at.ensures.back) none
