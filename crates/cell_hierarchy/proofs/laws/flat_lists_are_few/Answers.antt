use Rattle.cell_hierarchy.proofs.FlatLaws.{labels_are_few}
use Rattle.cell_hierarchy.proofs.FlatShapeLaws.{shapes_are_few}
use Rattle.cell_hierarchy.proofs.OneSetLaws.{one_set}
use Rattle.cell_hierarchy.proofs.laws.flat_lists_are_few.Goals as goal

pub returns : goal.returns
returns c = record { labels = labels_are_few; shapes = shapes_are_few one_set }
