use Rattle.high_cells.proofs.HighLaws.{cells_are_high}
use Rattle.high_cells.proofs.cells_are_high.Goals as goal

pub returns : goal.returns
returns c = cells_are_high
