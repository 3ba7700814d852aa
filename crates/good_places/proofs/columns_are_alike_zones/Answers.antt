use Rattle.good_places.proofs.PairLaws.{columns_are_alike_zones}
use Rattle.good_places.proofs.columns_are_alike_zones.Goals as goal

pub returns : goal.returns
returns c = columns_are_alike_zones
