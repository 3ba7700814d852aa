use Rattle.std.proofs.Common.{[], length}
use Rattle.shape_bins.specs.Order.{IsOrderAdded}
use Rattle.label_binding.proofs.FoundLaws.{AreFoundFirst}
use Rattle.label_binding.proofs.places.places_as_they_lie.Given as goal

abbrev pub invariant-loop-index : goal.invariant-loop-index
invariant-loop-index l = record {
  order : IsOrderAdded 0 (length l.labels) [] l.index-items;
  found : AreFoundFirst l.bins l.labels l.index-items l.index-index l.places.items;
}
