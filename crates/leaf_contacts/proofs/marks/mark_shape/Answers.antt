use Rattle.std.proofs.Common.{refl}
use Rattle.leaf_contacts.proofs.PlaceLaws.{mark_there, marks_more}
use Rattle.leaf_contacts.proofs.marks.mark_shape.Goals as goal

pub returns : goal.returns
returns c entries old =
    marks_more c.args._shapes.now entries c.args.marks.now _ c.args.place c.args._shape _ c.mark_with.result c.requires.rises c.requires.there refl
    (c.mark_with.ensures entries c.args._shape (mark_there c.args._shapes.now entries c.args.marks.now c.args.place c.args._shape c.requires.there old)) old
