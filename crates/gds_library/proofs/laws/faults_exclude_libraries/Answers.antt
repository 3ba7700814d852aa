use Rattle.gds_library.proofs.OneFaultLaws.{faults_exclude_libraries}
use Rattle.gds_library.proofs.laws.faults_exclude_libraries.Goals as goal

pub returns : goal.returns
returns c = faults_exclude_libraries
