use Rattle.row_answers.proofs.AnswerLaws.{row_answers_are_there}
use Rattle.row_answers.proofs.row_answers_are_there.Goals as goal

pub returns : goal.returns
returns c = row_answers_are_there
