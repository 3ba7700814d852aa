use Rattle.element_drawing.proofs.OrderLaws.{eq_is_same}
use Rattle.element_drawing.proofs.laws.eq_is_same.Goals as goal

pub returns : goal.returns
returns c = eq_is_same
