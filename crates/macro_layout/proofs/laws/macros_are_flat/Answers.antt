use Rattle.macro_layout.proofs.LayoutLaws.{macros_are_flat}
use Rattle.macro_layout.proofs.laws.macros_are_flat.Goals as goal

pub returns : goal.returns
returns c = macros_are_flat
