use Rattle.channel_answers.proofs.RoutingLaws.{close_pins_are_found}
use Rattle.channel_answers.proofs.close_pins_are_found.Goals as goal

pub returns : goal.returns
returns c = close_pins_are_found
