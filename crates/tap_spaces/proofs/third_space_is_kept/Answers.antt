use Rattle.tap_spaces.proofs.ThirdKeptLaws.{third_space_is_kept}
use Rattle.tap_spaces.proofs.third_space_is_kept.Goals as goal

pub returns : goal.returns
returns c = third_space_is_kept
