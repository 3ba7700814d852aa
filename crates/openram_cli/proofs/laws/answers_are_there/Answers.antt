use Rattle.openram_cli.proofs.OutcomeLaws.{answers_are_there, inputs_have_outcomes}
use Rattle.openram_cli.proofs.laws.answers_are_there.Goals as goal

pub returns-clause-inputs : goal.returns-clause-inputs
returns-clause-inputs c = inputs_have_outcomes

pub returns-clause-answers : goal.returns-clause-answers
returns-clause-answers c = answers_are_there c.reports_are_there.ensures c.libraries_are_writable.ensures
