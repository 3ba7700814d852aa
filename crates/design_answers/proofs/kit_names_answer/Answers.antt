use Rattle.design_answers.proofs.DesignLaws.{kit_names_answer}
use Rattle.design_answers.proofs.kit_names_answer.Goals as goal

pub returns : goal.returns
returns c = kit_names_answer
