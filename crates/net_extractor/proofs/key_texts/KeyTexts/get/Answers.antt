use Rattle.std.proofs.Common.{length, ap, arith}
use Rattle.net_extractor.proofs.KeyTextLaws.{length_texts}
use Rattle.net_extractor.proofs.key_texts.KeyTexts.get.Goals as goal

pub text_at-requires-clause-inside : goal.text_at-requires-clause-inside
text_at-requires-clause-inside c =
    omega (arith, c.requires, ap length c.deref-2.ensures.value, length_texts c.self.inside.bytes.items 0 c.self.inside.ends.items, ap length c.self.view_is)
