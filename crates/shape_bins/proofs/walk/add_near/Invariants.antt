use Rattle.std.proofs.Common.{◌-◌, length}
use Rattle.or_geom.specs.Adds.{Adds}
use Rattle.shape_bins.specs.Hits.{IsHit}
use Rattle.shape_bins.specs.Nodes.{position_at}
use Rattle.shape_bins.specs.Places.{HasBetween}
use Rattle.shape_bins.proofs.walk.add_near.Given as goal

abbrev pub invariant-loop-at : goal.invariant-loop-at
invariant-loop-at l = record {
  adds : Adds l.fn.out.items l.out.items (HasBetween (IsHit l.forest.shapes.now l.layer l.fn.query) l.forest.places.now 0 (position_at (length l.forest.shapes.now) l.forest.nodes.now l.at));
}

abbrev pub decreases-loop-at : goal.decreases-loop-at
decreases-loop-at l = l.range.end - l.at
