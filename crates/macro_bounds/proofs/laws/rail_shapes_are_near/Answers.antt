use Rattle.macro_bounds.proofs.NearLaws.{rail_shapes_are_near}
use Rattle.macro_bounds.proofs.laws.rail_shapes_are_near.Goals as goal

pub returns : goal.returns
returns c = rail_shapes_are_near
