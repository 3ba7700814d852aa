use Rattle.view_cover.proofs.CoveredLaws.{lef_covers_layout}
use Rattle.view_cover.proofs.laws.lef_covers_layout.Goals as goal

pub returns : goal.returns
returns c = lef_covers_layout
