use Rattle.macro_facts.proofs.WholeLaws.{macros_are_whole}
use Rattle.macro_facts.proofs.macros_are_whole.Goals as goal

pub returns : goal.returns
returns c = macros_are_whole
