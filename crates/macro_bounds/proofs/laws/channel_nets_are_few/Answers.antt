use Rattle.macro_bounds.proofs.CountLaws.{channel_nets_are_few}
use Rattle.macro_bounds.proofs.laws.channel_nets_are_few.Goals as goal

pub returns : goal.returns
returns c = channel_nets_are_few
