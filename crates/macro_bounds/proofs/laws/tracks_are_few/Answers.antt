use Rattle.macro_bounds.proofs.NearLaws.{tracks_are_few}
use Rattle.macro_bounds.proofs.laws.tracks_are_few.Goals as goal

pub returns : goal.returns
returns c = tracks_are_few
