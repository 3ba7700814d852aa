use Rattle.role_tables.proofs.FaultLaws.{faults_exclude}
use Rattle.role_tables.proofs.laws.table_faults_exclude_tables.Goals as goal

pub returns : goal.returns
returns c = faults_exclude
