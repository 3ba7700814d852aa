use Rattle.layout_answers.proofs.LayoutAnswerLaws.{layouts_have_nets}
use Rattle.layout_answers.proofs.layouts_have_nets.Goals as goal

pub returns : goal.returns
returns c = layouts_have_nets
