use Rattle.std.proofs.Common.{length, ap, arith}
use Rattle.net_extractor.proofs.KeyTextLaws.{length_texts}
use Rattle.net_extractor.proofs.key_texts.KeyTexts.len.Goals as goal

pub returns : goal.returns
returns c = omega (arith, c.len.ensures, c.self.inside.ends.ok.0, length_texts c.self.inside.bytes.items 0 c.self.inside.ends.items, ap length c.self.view_is)
