use Rattle.macro_facts.proofs.WholeLaws.{macros_have_rows}
use Rattle.macro_facts.proofs.macros_have_rows.Goals as goal

pub returns : goal.returns
returns c = macros_have_rows
