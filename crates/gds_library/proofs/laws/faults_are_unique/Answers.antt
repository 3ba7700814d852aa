use Rattle.gds_library.proofs.OneFaultLaws.{faults_are_unique}
use Rattle.gds_library.proofs.laws.faults_are_unique.Goals as goal

pub returns : goal.returns
returns c = faults_are_unique
