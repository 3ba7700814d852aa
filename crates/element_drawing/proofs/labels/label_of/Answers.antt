use Rattle.std.proofs.Common.{rules, refl, sym, ◌∙◌}
use Rattle.element_drawing.proofs.LabelLaws.{label_none, label_some}
use Rattle.element_drawing.proofs.labels.label_of.Goals as goal

pub returns-in_default-label_layer : goal.returns-in_default-label_layer
returns-in_default-label_layer c =
    rw c.in-Text.is (label_none c.args.layers.now c.in-Text.layer c.in-Text.texttype c.in-Text.at c.in-Text.string c.in-Text.props (sym c.in_default-label_layer.is ∙ search (c.label_layer.ensures, rules)))

pub returns : goal.returns
returns c =
    rw c.in-Text.is
    (label_some c.args.layers.now c.in-Text.layer c.in-Text.texttype c.in-Text.at c.in-Text.string c.in-Text.props c.in-Some.index _ _ (search (c.in-Some.ensures, rules)) refl c.as_bytes.ensures)
