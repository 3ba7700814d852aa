use Rattle.net_extractor.proofs.OneDifferenceLaws.{one_difference}
use Rattle.net_extractor.proofs.laws.differences_are_unique.Goals as goal

pub returns : goal.returns
returns c = one_difference
