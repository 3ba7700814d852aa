use Rattle.asked_pins.proofs.DrawnLaws.{drawn_alike}
use Rattle.asked_pins.proofs.drawings_ask_for_demanded_pins.Goals as goal

pub returns : goal.returns
returns c = drawn_alike
