use Rattle.macro_answers.proofs.MacroLaws.{macros_or_faults_are_there}
use Rattle.macro_answers.proofs.macros_or_faults_are_there.Goals as goal

pub returns : goal.returns
returns c = macros_or_faults_are_there
