use Rattle.macro_bounds.proofs.TextLaws.{output_names_are_short}
use Rattle.macro_bounds.proofs.laws.output_names_are_short.Goals as goal

pub returns : goal.returns
returns c = output_names_are_short
