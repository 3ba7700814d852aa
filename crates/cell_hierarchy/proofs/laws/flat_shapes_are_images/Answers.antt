use Rattle.cell_hierarchy.proofs.AlongLaws.{shapes_are_images}
use Rattle.cell_hierarchy.proofs.laws.flat_shapes_are_images.Goals as goal

pub returns : goal.returns
returns c = shapes_are_images
