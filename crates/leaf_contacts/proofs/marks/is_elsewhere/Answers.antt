use Rattle.std.proofs.Common.{Some}
use Rattle.leaf_contacts.proofs.MarkLaws.{elsewhere_told}
use Rattle.leaf_contacts.proofs.marks.is_elsewhere.Goals as goal

pub returns : goal.returns
returns c entries shape is = elsewhere_told entries shape c.args.mark.now (Some c.args.instance.now) c.differs.result is c.differs.ensures.other c.differs.ensures.same
