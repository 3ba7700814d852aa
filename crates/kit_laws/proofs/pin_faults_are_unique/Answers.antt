use Rattle.kit_laws.proofs.OneCellLaws.{one_pin_fault}
use Rattle.kit_laws.proofs.pin_faults_are_unique.Goals as goal

pub returns : goal.returns
returns c = one_pin_fault
