use Rattle.macro_bounds.proofs.NearLaws.{routed_shapes_are_near}
use Rattle.macro_bounds.proofs.laws.routed_shapes_are_near.Goals as goal

pub returns : goal.returns
returns c = routed_shapes_are_near
