use Rattle.openram_cli.proofs.answer.answer.Goals as goal

pub returns-in-Compare-clause-answer : goal.returns-in-Compare-clause-answer
returns-in-Compare-clause-answer g c = rw c.in-Compare.is c.answer_compare.ensures.answer
