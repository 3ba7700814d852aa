use Rattle.label_binding.proofs.FoundLaws.{AreFoundUpTo}
use Rattle.label_binding.proofs.places.places_as_listed.Given as goal

abbrev pub invariant-loop-label : goal.invariant-loop-label
invariant-loop-label l = AreFoundUpTo l.bins l.labels l.label-index l.places.items
