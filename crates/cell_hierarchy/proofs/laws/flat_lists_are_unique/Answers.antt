use Rattle.cell_hierarchy.proofs.OneListsLaws.{one_pair}
use Rattle.cell_hierarchy.proofs.laws.flat_lists_are_unique.Goals as goal

pub returns : goal.returns
returns c = one_pair
