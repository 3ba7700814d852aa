use Rattle.std.proofs.Common.{sym, ◌∙◌}
use Rattle.spice_text.specs.LogicalLines.{is_blank}
use Rattle.spice_text.proofs.LineLaws.{nowhere}
use Rattle.device_entries.proofs.words.word_length.Goals as goal

pub returns-in-None : goal.returns-in-None
returns-in-None c = sym (nowhere is_blank c.args.text.now (sym c.first_space.ensures ∙ c.in-None.is))
