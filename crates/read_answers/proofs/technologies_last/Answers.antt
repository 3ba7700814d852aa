use Rattle.read_answers.proofs.TechLaws.{technologies_last}
use Rattle.read_answers.proofs.technologies_last.Goals as goal

pub returns : goal.returns
returns c = technologies_last
