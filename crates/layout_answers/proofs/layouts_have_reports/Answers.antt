use Rattle.layout_answers.proofs.LayoutAnswerLaws.{layouts_have_reports}
use Rattle.layout_answers.proofs.layouts_have_reports.Goals as goal

pub returns : goal.returns
returns c = layouts_have_reports c.reports_are_there.ensures
