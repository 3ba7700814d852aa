use Rattle.sram_macro.proofs.StatedLaws.{macros_are_stated}
use Rattle.sram_macro.proofs.laws.macros_are_stated.Goals as goal

pub returns : goal.returns
returns c = macros_are_stated c.channels_are_drawn.ensures.main c.flat_lists_are_stated.ensures c.macro_libraries_are_writable.ensures.macros c.kit_leaves_are_complete.ensures.complete
