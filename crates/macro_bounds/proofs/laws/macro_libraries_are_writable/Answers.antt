use Rattle.macro_bounds.proofs.LibraryLaws.{macro_cells_have_layers, macro_libraries_are_writable, macro_libraries_are_macros}
use Rattle.macro_bounds.proofs.laws.macro_libraries_are_writable.Goals as goal

pub returns-clause-layers : goal.returns-clause-layers
returns-clause-layers c = macro_cells_have_layers

pub returns-clause-writable : goal.returns-clause-writable
returns-clause-writable c = macro_libraries_are_writable

pub returns-clause-macros : goal.returns-clause-macros
returns-clause-macros c = macro_libraries_are_macros
