use Rattle.bar_spaces.proofs.FirstKeptLaws.{first_space_is_kept}
use Rattle.bar_spaces.proofs.first_space_is_kept.Goals as goal

pub returns : goal.returns
returns c = first_space_is_kept
