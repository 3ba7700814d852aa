use Rattle.std.proofs.Common.{◌≡◌, length, ◌∙◌, map, ap, arith}
use Rattle.std.proofs.lemmas.List.{take_all}
use Rattle.net_extractor.specs.declared.label.NetLabel.{NetLabel}
use Rattle.net_extractor.specs.PlainNets.{plain_net}
use Rattle.net_extractor.specs.KeyPlaces.{label_key}
use Rattle.net_extractor.proofs.KeyTextLaws.{has_next}
use Rattle.net_extractor.proofs.MappedLaws.{mapped_twice}
use Rattle.net_extractor.proofs.keys.keys_of.Goals as goal

pub loop-label-preserved : goal.loop-label-preserved
loop-label-preserved c =
    let there : c.len.result ≡ length c.add_label_key.new.bytes.items = omega (arith, c.len.ensures, c.add_label_key.new.bytes.ok.0) in
    has_next (λ (e : NetLabel). label_key (plain_net e)) c.args.labels.now c.loop-label.label-index _ c.loop-label.bytes.items c.add_label_key.new.bytes.items c.loop-label.ends.items c.push.new.self.items c.len.result
    c.loop-label-test.true c.in_ok-add_label_key.ensures there c.in_ok-push.ensures.items c.loop-label.invariant

pub returns : goal.returns
returns c =
    let labels = c.args.labels.now in
    c.from_parts.ensures ∙ c.loop-label.invariant.texts_are
    ∙ (ap (map (λ (e : NetLabel). label_key (plain_net e))) (take_all c.loop-label.label-index labels c.loop-label-test.false) ∙ mapped_twice label_key plain_net labels)
