use Rattle.std.proofs.Common.{map, take}
use Rattle.net_extractor.specs.declared.label.NetLabel.{NetLabel}
use Rattle.net_extractor.specs.PlainNets.{plain_net}
use Rattle.reply_lines.specs.Lines.{reply_line}
use Rattle.reply_lines.specs.NetLines.{net_words}
use Rattle.net_extractor.proofs.KeyTextLaws.{HasTexts}
use Rattle.reply_lines.proofs.net_lines.lines_of.Given as goal

abbrev pub invariant-loop-label : goal.invariant-loop-label
invariant-loop-label l = HasTexts l.text l.ends.items (map (λ (e : NetLabel). reply_line (net_words l.layers (plain_net e))) (take l.label-index l.labels))
