use Rattle.net_extractor.proofs.AreaLaws.{overlap_shares, shares_overlap}
use Rattle.net_extractor.proofs.contacts.are_in_contact.Goals as goal

pub returns-in-Overlapping : goal.returns-in-Overlapping
returns-in-Overlapping c = rw c.in-Overlapping.is (
  λ yes. let o = c.overlap.ensures.0 yes in overlap_shares c.args.a c.args.b o.right o.left o.high o.low,
  λ s. c.overlap.ensures.1 (shares_overlap c.args.a c.args.b s),
)
