use Rattle.macro_bounds.proofs.DifferLaws.{macro_names_differ, made_names_differ}
use Rattle.macro_bounds.proofs.laws.macro_names_differ.Goals as goal

pub returns-clause-names : goal.returns-clause-names
returns-clause-names c = macro_names_differ

pub returns-clause-made : goal.returns-clause-made
returns-clause-made c = made_names_differ
