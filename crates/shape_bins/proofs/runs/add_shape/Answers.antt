use Rattle.shape_bins.proofs.RunLaws.{added_filled}
use Rattle.shape_bins.proofs.runs.add_shape.Goals as goal

pub returns-then-len-le-MOST_GROWING : goal.returns-then-len-le-MOST_GROWING
returns-then-len-le-MOST_GROWING c = λ shapes there fills.
    let made = c.in_ok-run.ensures shapes there fills in
    added_filled shapes _ _ _ c.in_ok-run.run' c.in_ok-push_back.ensures.items made.0 made.1

pub returns : goal.returns
returns c = λ shapes there fills.
    let made = c.in_ok-run.ensures shapes there fills in
    c.in_ok-close_first.ensures shapes (added_filled shapes _ _ _ c.in_ok-run.run' c.in_ok-push_back.ensures.items made.0 made.1)
