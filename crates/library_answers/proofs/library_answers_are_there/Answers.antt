use Rattle.library_answers.proofs.AnswerLaws.{library_answers_are_there}
use Rattle.library_answers.proofs.library_answers_are_there.Goals as goal

pub returns : goal.returns
returns c = library_answers_are_there
