use Rattle.read_answers.proofs.ConfigLaws.{configurations_last}
use Rattle.read_answers.proofs.configurations_last.Goals as goal

pub returns : goal.returns
returns c = configurations_last
