use Rattle.memory_laws.proofs.Plans.{phases_agree}
use Rattle.memory_laws.proofs.laws.phases_agree.Goals as goal

pub returns : goal.returns
returns c = phases_agree
