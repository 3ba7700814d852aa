use Rattle.memory_laws.proofs.Plans.{runs_exist_for}
use Rattle.memory_laws.proofs.laws.runs_exist.Goals as goal

pub returns : goal.returns
returns c = runs_exist_for
