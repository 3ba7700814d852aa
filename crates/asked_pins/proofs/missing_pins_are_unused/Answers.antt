use Rattle.asked_pins.proofs.SameLaws.{missing_unused}
use Rattle.asked_pins.proofs.missing_pins_are_unused.Goals as goal

pub returns : goal.returns
returns c = missing_unused
