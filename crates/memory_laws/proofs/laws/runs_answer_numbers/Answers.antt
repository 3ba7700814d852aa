use Rattle.memory_laws.proofs.NumberArrayLaws.{runs_answer_numbers}
use Rattle.memory_laws.proofs.laws.runs_answer_numbers.Goals as goal

pub returns : goal.returns
returns c = runs_answer_numbers
