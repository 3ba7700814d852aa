use Rattle.cell_hierarchy.proofs.OneListsLaws.{one_set_of_shapes}
use Rattle.cell_hierarchy.proofs.laws.flat_shapes_are_unique.Goals as goal

pub returns : goal.returns
returns c = one_set_of_shapes
