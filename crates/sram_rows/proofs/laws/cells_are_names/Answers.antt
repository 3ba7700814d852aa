use Rattle.sram_rows.proofs.CellNames.{cells_are_names}
use Rattle.sram_rows.proofs.laws.cells_are_names.Goals as goal

pub returns : goal.returns
returns c = cells_are_names
