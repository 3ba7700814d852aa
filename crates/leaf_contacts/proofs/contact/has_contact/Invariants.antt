use Rattle.std.proofs.Common.{List}
use Rattle.or_geom.proofs.GatheringLaws.{IsAmongLeft}
use Rattle.leaf_contacts.specs.Marks.{AreLayoutEntries, HasContactAt, ShapeEntry}
use Rattle.leaf_contacts.proofs.contact.has_contact.Given as goal

abbrev pub invariant-loop-stand : goal.invariant-loop-stand
invariant-loop-stand l = (entries : List ShapeEntry) → AreLayoutEntries l.layout entries → IsAmongLeft (HasContactAt l.layout.tech.now.connects l.layout.tree.now entries) l.stands l.stand-index
