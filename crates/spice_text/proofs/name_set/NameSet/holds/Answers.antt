use Rattle.std.proofs.Common.{ap, ◌∙◌}
use Rattle.spice_text.specs.Words.{is_among}
use Rattle.spice_text.proofs.NameLaws.{among_slice}
use Rattle.spice_text.proofs.name_set.NameSet.holds.Goals as goal

pub returns : goal.returns
returns c = c.contains.ensures ∙ among_slice c.args.name.now c.self.inside.seen.keys ∙ ap (is_among c.args.name.now) c.self.view_is
