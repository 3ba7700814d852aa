use Rattle.std.specs.Str.{IsAscii}
use Rattle.element_drawing.specs.declared.label.ElementLabel.{ElementLabel}
use Rattle.cell_hierarchy.proofs.OwnLaws.{all_got_or}
use Rattle.cell_hierarchy.proofs.parts.labels_in.Goals as goal

pub text_in-requires : goal.text_in-requires
text_in-requires c = all_got_or (λ (text : ElementLabel). IsAscii text.name.now) c.args.texts.now c.loop-text.text-index _ c.requires c.loop-text-test.true
