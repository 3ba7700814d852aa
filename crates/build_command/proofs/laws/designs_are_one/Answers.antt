use Rattle.build_command.proofs.OneDesignLaws.{designs_are_one}
use Rattle.build_command.proofs.laws.designs_are_one.Goals as goal

pub returns : goal.returns
returns c = designs_are_one
