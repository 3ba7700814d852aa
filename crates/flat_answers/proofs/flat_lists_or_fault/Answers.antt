use Rattle.flat_answers.proofs.FlatAnswerLaws.{flat_lists_or_fault}
use Rattle.flat_answers.proofs.flat_lists_or_fault.Goals as goal

pub returns : goal.returns
returns c = flat_lists_or_fault
