use Rattle.macro_layout.proofs.LayoutLaws.{flat_lists_are_layout}
use Rattle.macro_layout.proofs.laws.flat_lists_are_layout.Goals as goal

pub returns : goal.returns
returns c = flat_lists_are_layout
