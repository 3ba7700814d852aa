use Rattle.macro_laws.proofs.OneBuildLaws.{one_build_fault}
use Rattle.macro_laws.proofs.build_faults_are_unique.Goals as goal

pub returns : goal.returns
returns c = one_build_fault
