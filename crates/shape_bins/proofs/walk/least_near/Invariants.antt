use Rattle.std.proofs.Common.{◌-◌, length, None}
use Rattle.shape_bins.specs.Hits.{IsHitFrom}
use Rattle.shape_bins.specs.Least.{IsLeastWith}
use Rattle.shape_bins.specs.Nodes.{position_at}
use Rattle.shape_bins.specs.Places.{HasBetween}
use Rattle.shape_bins.proofs.walk.least_near.Given as goal

abbrev pub invariant-loop-at : goal.invariant-loop-at
invariant-loop-at l = record {
  least : IsLeastWith None (HasBetween (IsHitFrom l.forest.shapes.now l.layer l.fn.query l.from) l.forest.places.now 0 (position_at (length l.forest.shapes.now) l.forest.nodes.now l.at)) l.found;
}

abbrev pub decreases-loop-at : goal.decreases-loop-at
decreases-loop-at l = l.range.end - l.at
