use Rattle.cell_hierarchy.proofs.OneListsLaws.{shapes_of_lists}
use Rattle.cell_hierarchy.proofs.laws.flat_lists_have_flat_shapes.Goals as goal

pub returns : goal.returns
returns c = shapes_of_lists
