use Rattle.device_lvs.proofs.OneAnswerLaws.{one_device_fault}
use Rattle.device_lvs.proofs.laws.device_faults_are_unique.Goals as goal

pub returns : goal.returns
returns c = one_device_fault
