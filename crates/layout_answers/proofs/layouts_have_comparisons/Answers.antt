use Rattle.layout_answers.proofs.LayoutAnswerLaws.{layouts_have_comparisons}
use Rattle.layout_answers.proofs.layouts_have_comparisons.Goals as goal

pub returns : goal.returns
returns c = layouts_have_comparisons
