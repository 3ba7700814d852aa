use Rattle.net_extractor.proofs.DifferenceLaws.{differs}
use Rattle.net_extractor.proofs.laws.differences_exclude_alike.Goals as goal

pub returns : goal.returns
returns c = differs
