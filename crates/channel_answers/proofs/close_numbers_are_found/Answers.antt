use Rattle.channel_answers.proofs.RoutingLaws.{close_numbers_are_found}
use Rattle.channel_answers.proofs.close_numbers_are_found.Goals as goal

pub returns : goal.returns
returns c = close_numbers_are_found
