use Rattle.read_answers.proofs.GoodLaws.{configurations_are_good}
use Rattle.read_answers.proofs.configurations_are_good.Goals as goal

pub returns : goal.returns
returns c = configurations_are_good
