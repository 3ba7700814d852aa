use Rattle.memory_laws.proofs.ExampleLaws.{examples_answer}
use Rattle.memory_laws.proofs.laws.examples_answer.Goals as goal

pub returns : goal.returns
returns c = examples_answer
