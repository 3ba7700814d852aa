use Rattle.leaf_contacts.proofs.FarLaws.{overlap_shares, shares_overlap}
use Rattle.leaf_contacts.proofs.touching.share_area.Goals as goal

pub returns : goal.returns
returns c = (
  λ yes. let o = c.overlap.ensures.0 yes in overlap_shares c.args.a c.args.b o.right o.left o.high o.low,
  λ s. c.overlap.ensures.1 (shares_overlap c.args.a c.args.b s),
)
