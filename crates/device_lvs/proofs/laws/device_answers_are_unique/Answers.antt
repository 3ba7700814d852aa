use Rattle.device_lvs.proofs.OneAnswerLaws.{one_device_answer}
use Rattle.device_lvs.proofs.laws.device_answers_are_unique.Goals as goal

pub returns : goal.returns
returns c = one_device_answer
