use Rattle.device_answers.proofs.DrawnThereLaws.{drawn_devices_are_there}
use Rattle.device_answers.proofs.drawn_devices_are_there.Goals as goal

pub returns : goal.returns
returns c = drawn_devices_are_there
