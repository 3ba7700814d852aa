use Rattle.std.proofs.Common.{◌≡◌, length, ◌∙◌, map, ap}
use Rattle.std.proofs.lemmas.List.{take_all}
use Rattle.net_extractor.specs.declared.label.NetLabel.{NetLabel}
use Rattle.net_extractor.specs.PlainNetLabel.{PlainNetLabel}
use Rattle.net_extractor.specs.PlainNets.{plain_net}
use Rattle.net_extractor.proofs.MappedLaws.{mapped_twice}
use Rattle.reply_lines.specs.Lines.{reply_line}
use Rattle.reply_lines.specs.NetLines.{net_words}
use Rattle.net_extractor.proofs.KeyTextLaws.{has_next}
use Rattle.reply_lines.proofs.net_lines.lines_of.Goals as goal

pub loop-label-preserved : goal.loop-label-preserved
loop-label-preserved c =
    let seen = c.as_bytes.result.now in
    let there : length seen ≡ length c.add_net_line.new.text = ap length c.as_bytes.ensures in
    has_next (λ (e : NetLabel). reply_line (net_words c.args.layers.now (plain_net e))) c.args.labels.now c.loop-label.label-index _ c.loop-label.text c.add_net_line.new.text c.loop-label.ends.items c.push.new.self.items (length seen)
    c.loop-label-test.true c.in_ok-add_net_line.ensures there c.in_ok-push.ensures.items c.loop-label.invariant

pub returns : goal.returns
returns c =
    let layers = c.args.layers.now in
    let labels = c.args.labels.now in
    c.from_parts.ensures ∙ c.loop-label.invariant.texts_are
    ∙ (ap (map (λ (e : NetLabel). reply_line (net_words layers (plain_net e)))) (take_all c.loop-label.label-index labels c.loop-label-test.false)
    ∙ mapped_twice (λ (label : PlainNetLabel). reply_line (net_words layers label)) plain_net labels)
