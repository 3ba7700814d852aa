use Rattle.std.proofs.Common.{refl, subst}
use Rattle.std.specs.Option.{option_copied}
use Rattle.leaf_contacts.specs.Marks.{IsMarkOrNone}
use Rattle.leaf_contacts.proofs.MarkLaws.{first_mark, mark_more}
use Rattle.leaf_contacts.proofs.marks.mark_with.Goals as goal

pub returns-in-None : goal.returns-in-None
returns-in-None c entries shape none = first_mark entries shape _ (option_copied c.args.instance) (subst (IsMarkOrNone entries shape) c.in-None.is none) refl refl

pub returns-in-Some : goal.returns-in-Some
returns-in-Some c entries shape is =
    mark_more entries shape c.in-Some.mark _ (option_copied c.args.instance) (subst (IsMarkOrNone entries shape) c.in-Some.is is) refl c.differs.ensures.other c.differs.ensures.same
