use Rattle.std.proofs.Common.{length, ap, arith}
use Rattle.net_extractor.proofs.KeyTextLaws.{length_texts}
use Rattle.reply_lines.proofs.text_lines.TextLines.len.Goals as goal

pub returns : goal.returns
returns c = omega (arith, c.len.ensures, c.self.inside.ends.ok.0, length_texts c.self.inside.text 0 c.self.inside.ends.items, ap length c.self.view_is)
