use Rattle.build_command.proofs.OneWorkLaws.{runs_end_as_work}
use Rattle.build_command.proofs.laws.runs_end_as_work.Goals as goal

pub returns : goal.returns
returns c = runs_end_as_work
