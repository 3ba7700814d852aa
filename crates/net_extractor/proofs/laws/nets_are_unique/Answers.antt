use Rattle.net_extractor.proofs.OneNetLaws.{one_nets}
use Rattle.net_extractor.proofs.laws.nets_are_unique.Goals as goal

pub returns : goal.returns
returns c = one_nets
