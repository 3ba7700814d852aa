use Rattle.std.proofs.Common.{length, ap, arith}
use Rattle.net_extractor.proofs.KeyTextLaws.{length_texts}
use Rattle.reply_lines.proofs.text_lines.TextLines.get.Goals as goal

pub line_at-requires-clause-inside : goal.line_at-requires-clause-inside
line_at-requires-clause-inside c =
    omega (arith, c.requires, ap length c.deref.ensures.value, length_texts c.self.inside.text 0 c.self.inside.ends.items, ap length c.self.view_is)
