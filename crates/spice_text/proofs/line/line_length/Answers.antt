use Rattle.std.proofs.Common.{sym, ◌∙◌}
use Rattle.spice_text.specs.Lines.{is_lf}
use Rattle.spice_text.proofs.LineLaws.{nowhere}
use Rattle.spice_text.proofs.line.line_length.Goals as goal

pub returns-in-None : goal.returns-in-None
returns-in-None c = sym (nowhere is_lf c.args.text.now (sym c.first_end.ensures ∙ c.in-None.is))
