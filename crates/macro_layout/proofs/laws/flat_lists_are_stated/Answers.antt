use Rattle.macro_layout.proofs.StatedLaws.{flat_lists_are_stated}
use Rattle.macro_layout.proofs.laws.flat_lists_are_stated.Goals as goal

pub returns : goal.returns
returns c = flat_lists_are_stated
