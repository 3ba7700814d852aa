use Rattle.shape_bins.proofs.RunLaws.{kept_filled}
use Rattle.shape_bins.proofs.runs.keep.Goals as goal

pub returns : goal.returns
returns c = kept_filled c.args.run _ _ c.in_ok-push.ensures.items
