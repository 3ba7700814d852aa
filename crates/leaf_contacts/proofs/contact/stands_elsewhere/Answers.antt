use Rattle.std.proofs.Common.{subst}
use Rattle.leaf_contacts.specs.Marks.{IsMarkOrNone}
use Rattle.leaf_contacts.proofs.PlaceLaws.{mark_there}
use Rattle.leaf_contacts.proofs.contact.stands_elsewhere.Goals as goal

pub returns-in-Some : goal.returns-in-Some
returns-in-Some c entries shape are there =
    c.is_elsewhere.ensures entries shape (subst (IsMarkOrNone entries shape) c.in-Some.is (mark_there c.args.layout.now.bins.now entries c.args.layout.now.marks.now c.args.place shape there are))

pub returns-in-None : goal.returns-in-None
returns-in-None c entries shape are there = (
  λ t. absurd cc,
  λ e. absurd (subst (IsMarkOrNone entries shape) c.in-None.is (mark_there c.args.layout.now.bins.now entries c.args.layout.now.marks.now c.args.place shape there are) e.other e.listed),
)
