use Rattle.device_answers.proofs.DeviceAnswerLaws.{devices_are_answered}
use Rattle.device_answers.proofs.devices_are_answered.Goals as goal

pub returns : goal.returns
returns c = devices_are_answered
