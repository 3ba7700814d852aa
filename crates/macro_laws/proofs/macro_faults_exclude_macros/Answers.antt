use Rattle.macro_laws.proofs.OnePartLaws.{no_part_fault}
use Rattle.macro_laws.proofs.macro_faults_exclude_macros.Goals as goal

pub returns : goal.returns
returns c = no_part_fault
