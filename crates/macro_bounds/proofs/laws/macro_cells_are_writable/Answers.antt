use Rattle.macro_bounds.proofs.CellLaws.{macro_cells_are_writable}
use Rattle.macro_bounds.proofs.laws.macro_cells_are_writable.Goals as goal

pub returns : goal.returns
returns c = macro_cells_are_writable
