use Rattle.bar_spaces.proofs.FirstCutLaws.{first_cut_space_is_kept}
use Rattle.bar_spaces.proofs.first_cut_space_is_kept.Goals as goal

pub returns : goal.returns
returns c = first_cut_space_is_kept
