use Rattle.build_command.proofs.OneWorkLaws.{works_are_one}
use Rattle.build_command.proofs.laws.works_are_one.Goals as goal

pub returns : goal.returns
returns c = works_are_one
