use Rattle.channel_answers.proofs.RailLaws.{rails_have_shapes}
use Rattle.channel_answers.proofs.rails_have_shapes.Goals as goal

pub returns : goal.returns
returns c = rails_have_shapes
