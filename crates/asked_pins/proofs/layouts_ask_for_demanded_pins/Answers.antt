use Rattle.asked_pins.proofs.SameLaws.{demanded_alone}
use Rattle.asked_pins.proofs.layouts_ask_for_demanded_pins.Goals as goal

pub returns : goal.returns
returns c = demanded_alone
