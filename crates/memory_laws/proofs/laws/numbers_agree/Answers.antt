use Rattle.memory_laws.proofs.NumberLaws.{numbers_agree}
use Rattle.memory_laws.proofs.laws.numbers_agree.Goals as goal

pub returns : goal.returns
returns c = numbers_agree
