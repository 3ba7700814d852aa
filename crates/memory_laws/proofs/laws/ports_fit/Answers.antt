use Rattle.memory_laws.proofs.Plans.{ports_fit}
use Rattle.memory_laws.proofs.laws.ports_fit.Goals as goal

pub returns : goal.returns
returns c = ports_fit
