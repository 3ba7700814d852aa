use Rattle.design_answers.proofs.DesignLaws.{designs_answer}
use Rattle.design_answers.proofs.designs_answer.Goals as goal

pub returns : goal.returns
returns c = designs_answer
