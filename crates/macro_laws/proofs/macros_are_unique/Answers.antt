use Rattle.macro_laws.proofs.OneMacroLaws.{one_macro}
use Rattle.macro_laws.proofs.macros_are_unique.Goals as goal

pub returns : goal.returns
returns c = one_macro
