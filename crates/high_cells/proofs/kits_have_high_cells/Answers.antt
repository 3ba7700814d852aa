use Rattle.high_cells.proofs.HighLaws.{kits_have_high_cells}
use Rattle.high_cells.proofs.kits_have_high_cells.Goals as goal

pub returns : goal.returns
returns c = kits_have_high_cells
