use Rattle.or_geom.specs.Adds.{Adds}
use Rattle.leaf_contacts.specs.Marks.{IsNearOnLayers}
use Rattle.leaf_contacts.proofs.contact.add_near.Given as goal

abbrev pub invariant-loop-layer : goal.invariant-loop-layer
invariant-loop-layer l = Adds l.fn.places.items l.places.items (IsNearOnLayers l.bins l.area l.layer)
