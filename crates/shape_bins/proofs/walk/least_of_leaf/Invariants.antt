use Rattle.std.proofs.Common.{◌≤◌}
use Rattle.shape_bins.specs.Hits.{IsHitFrom}
use Rattle.shape_bins.specs.Least.{IsLeastWith}
use Rattle.shape_bins.specs.Places.{HasBetween}
use Rattle.shape_bins.proofs.walk.least_of_leaf.Given as goal

abbrev pub invariant-loop-at : goal.invariant-loop-at
invariant-loop-at l = record {
  within : l.at ≤ l.leaf.end;
  least : IsLeastWith l.fn.before (HasBetween (IsHitFrom l.forest.shapes.now l.leaf.hull.layer l.fn.query l.from) l.forest.places.now l.leaf.first l.at) l.found;
}
