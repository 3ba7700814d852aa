use Rattle.kit_answers.proofs.KitLaws.{kits_answer}
use Rattle.kit_answers.proofs.kits_answer.Goals as goal

pub returns : goal.returns
returns c = kits_answer
