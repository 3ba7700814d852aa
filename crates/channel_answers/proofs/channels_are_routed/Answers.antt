use Rattle.channel_answers.proofs.RoutingLaws.{channels_are_routed}
use Rattle.channel_answers.proofs.channels_are_routed.Goals as goal

pub returns : goal.returns
returns c = channels_are_routed
