use Rattle.std.proofs.Common.{map, take}
use Rattle.net_extractor.specs.declared.label.NetLabel.{NetLabel}
use Rattle.net_extractor.specs.PlainNets.{plain_net}
use Rattle.net_extractor.specs.KeyPlaces.{label_key}
use Rattle.net_extractor.proofs.KeyTextLaws.{HasTexts}
use Rattle.net_extractor.proofs.keys.keys_of.Given as goal

abbrev pub invariant-loop-label : goal.invariant-loop-label
invariant-loop-label l = HasTexts l.bytes.items l.ends.items (map (λ (e : NetLabel). label_key (plain_net e)) (take l.label-index l.labels))
