use Rattle.device_lvs.proofs.OneAnswerLaws.{no_device_answer}
use Rattle.device_lvs.proofs.laws.device_faults_exclude_answers.Goals as goal

pub returns : goal.returns
returns c = no_device_answer
