use Rattle.good_places.proofs.PairLaws.{fronts_are_alike_zones}
use Rattle.good_places.proofs.fronts_are_alike_zones.Goals as goal

pub returns : goal.returns
returns c = fronts_are_alike_zones
