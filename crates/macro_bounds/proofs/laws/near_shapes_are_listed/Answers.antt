use Rattle.macro_bounds.proofs.BoxLaws.{listed_shapes_are_near, greater_bounds_hold, near_shapes_have_layers}
use Rattle.macro_bounds.proofs.laws.near_shapes_are_listed.Goals as goal

pub returns-clause-listed : goal.returns-clause-listed
returns-clause-listed c = listed_shapes_are_near

pub returns-clause-greater : goal.returns-clause-greater
returns-clause-greater c = greater_bounds_hold

pub returns-clause-layers : goal.returns-clause-layers
returns-clause-layers c = near_shapes_have_layers
