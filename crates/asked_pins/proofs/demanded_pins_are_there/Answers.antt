use Rattle.asked_pins.proofs.DemandedLaws.{demanded_there}
use Rattle.asked_pins.proofs.demanded_pins_are_there.Goals as goal

pub returns : goal.returns
returns c = demanded_there
