use Rattle.memory_laws.proofs.Plans.{runs_answer}
use Rattle.memory_laws.proofs.laws.runs_answer.Goals as goal

pub returns : goal.returns
returns c = runs_answer
