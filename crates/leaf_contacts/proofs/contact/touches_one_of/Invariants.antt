use Rattle.std.proofs.Common.{List}
use Rattle.or_geom.proofs.GatheringLaws.{IsAmongLeft}
use Rattle.leaf_contacts.specs.Marks.{AreMarks, IsTouchedElsewhere, ShapeEntry}
use Rattle.leaf_contacts.proofs.contact.touches_one_of.Given as goal

abbrev pub invariant-loop-place : goal.invariant-loop-place
invariant-loop-place l = (entries : List ShapeEntry) → AreMarks l.layout.bins.now entries l.layout.marks.now → IsAmongLeft (IsTouchedElsewhere l.layout.tech.now.connects l.layout.bins.now entries l.moved l.instance) l.places l.place-index
