use Rattle.shape_bins.proofs.RunLaws.{longer_filled}
use Rattle.shape_bins.proofs.runs.longer.Goals as goal

pub returns : goal.returns
returns c = λ shapes there fills.
    longer_filled shapes c.args.shape c.args.run c.single.result c.in_ok-filled.filled c.single.ensures c.in_ok-filled.ensures there fills
