use Rattle.std.proofs.Common.{List}
use Rattle.or_geom.proofs.GatheringLaws.{IsAmongLeft}
use Rattle.leaf_contacts.specs.Marks.{AreLayoutEntries, IsContactWith, ShapeEntry}
use Rattle.leaf_contacts.proofs.contact.has_contact_at.Given as goal

abbrev pub invariant-loop-leaf : goal.invariant-loop-leaf
invariant-loop-leaf l = (entries : List ShapeEntry) → AreLayoutEntries l.layout entries → IsAmongLeft (IsContactWith l.layout.tech.now.connects l.layout.tree.now entries l.stand) l.layout.tree.now.leaves.now l.leaf-index
