use Rattle.element_drawing.proofs.BoxLaws.{difference_kept}
use Rattle.element_drawing.proofs.stretch.rising.Goals as goal

pub returns-clause-low : goal.returns-clause-low
returns-clause-low c = difference_kept c.args.s.from c.args.s.before c.requires.short.from c.requires.short.before
