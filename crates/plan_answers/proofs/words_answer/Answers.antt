use Rattle.plan_answers.proofs.WordLaws.{words_answer}
use Rattle.plan_answers.proofs.words_answer.Goals as goal

pub returns : goal.returns
returns c = words_answer
