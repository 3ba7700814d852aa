use Rattle.shape_bins.proofs.FilledLaws.{adds_instead, adds_joint, adds_again}
use Rattle.shape_bins.proofs.filled.add_filled.Goals as goal

pub returns-in-Some-both : goal.returns-in-Some-both
returns-in-Some-both c = adds_joint c.args.filled c.in-Some.last c.in-Some-both.joined _ _ _ c.in-Some.ensures.items c.in-Some-both.ensures c.in_ok-push-2.ensures.items

pub returns-then-last-lt2 : goal.returns-then-last-lt2
returns-then-last-lt2 c = adds_instead c.args.filled c.in-Some.last _ _ _ c.in-Some.ensures.items c.in_ok-push-3.ensures.items

pub returns : goal.returns
returns c = adds_again c.args.filled c.in-Some.last _ _ _ _ c.in-Some.ensures.items c.in_ok-push-4.ensures.items c.in_ok-push-5.ensures.items
