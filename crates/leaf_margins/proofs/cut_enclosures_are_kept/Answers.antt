use Rattle.leaf_margins.proofs.CutEncloseLaws.{cut_enclosures_are_kept}
use Rattle.leaf_margins.proofs.cut_enclosures_are_kept.Goals as goal

pub returns : goal.returns
returns c = cut_enclosures_are_kept
