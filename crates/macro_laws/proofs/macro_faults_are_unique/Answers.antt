use Rattle.macro_laws.proofs.OnePartLaws.{one_part_fault}
use Rattle.macro_laws.proofs.macro_faults_are_unique.Goals as goal

pub returns : goal.returns
returns c = one_part_fault
