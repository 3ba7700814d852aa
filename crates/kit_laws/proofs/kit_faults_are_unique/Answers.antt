use Rattle.kit_laws.proofs.OneKitLaws.{one_kit_fault}
use Rattle.kit_laws.proofs.kit_faults_are_unique.Goals as goal

pub returns : goal.returns
returns c = one_kit_fault
