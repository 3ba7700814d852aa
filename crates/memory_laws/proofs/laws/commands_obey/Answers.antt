use Rattle.memory_laws.proofs.Plans.{commands_obey}
use Rattle.memory_laws.proofs.laws.commands_obey.Goals as goal

pub returns : goal.returns
returns c = commands_obey
