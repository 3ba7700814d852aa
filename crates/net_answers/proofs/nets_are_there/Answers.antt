use Rattle.net_answers.proofs.NumberedLaws.{nets_are_there}
use Rattle.net_answers.proofs.nets_are_there.Goals as goal

pub returns : goal.returns
returns c = nets_are_there
