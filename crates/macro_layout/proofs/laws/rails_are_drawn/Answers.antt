use Rattle.macro_layout.proofs.RailLaws.{rails_are_drawn}
use Rattle.macro_layout.proofs.laws.rails_are_drawn.Goals as goal

pub returns : goal.returns
returns c = rails_are_drawn
