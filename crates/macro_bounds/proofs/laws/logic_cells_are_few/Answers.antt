use Rattle.macro_bounds.proofs.CountLaws.{logic_cells_are_few}
use Rattle.macro_bounds.proofs.laws.logic_cells_are_few.Goals as goal

pub returns : goal.returns
returns c = logic_cells_are_few
