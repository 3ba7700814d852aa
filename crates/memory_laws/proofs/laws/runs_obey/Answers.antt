use Rattle.memory_laws.proofs.Plans.{runs_obey}
use Rattle.memory_laws.proofs.laws.runs_obey.Goals as goal

pub returns : goal.returns
returns c = runs_obey
