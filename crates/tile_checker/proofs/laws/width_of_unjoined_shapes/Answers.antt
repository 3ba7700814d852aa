use Rattle.tile_checker.proofs.UnjoinedLaws.{width_of_unjoined_shapes}
use Rattle.tile_checker.proofs.laws.width_of_unjoined_shapes.Goals as goal

pub returns : goal.returns
returns c = width_of_unjoined_shapes
