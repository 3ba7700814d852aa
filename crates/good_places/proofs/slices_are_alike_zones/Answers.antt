use Rattle.good_places.proofs.PairLaws.{slices_are_alike_zones}
use Rattle.good_places.proofs.slices_are_alike_zones.Goals as goal

pub returns : goal.returns
returns c = slices_are_alike_zones
