use Rattle.good_places.proofs.PairLaws.{cells_are_alike_zones}
use Rattle.good_places.proofs.cells_are_alike_zones.Goals as goal

pub returns : goal.returns
returns c = cells_are_alike_zones
