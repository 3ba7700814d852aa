use Rattle.role_tables.proofs.FaultLaws.{faults_one}
use Rattle.role_tables.proofs.laws.table_faults_are_unique.Goals as goal

pub returns : goal.returns
returns c = faults_one
