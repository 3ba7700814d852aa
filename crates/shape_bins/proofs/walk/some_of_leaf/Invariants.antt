use Rattle.std.proofs.Common.{◌≤◌, ℕ}
use Rattle.shape_bins.specs.Hits.{IsHit}
use Rattle.shape_bins.specs.Places.{HasBetween}
use Rattle.shape_bins.proofs.walk.some_of_leaf.Given as goal

abbrev pub invariant-loop-at : goal.invariant-loop-at
invariant-loop-at l = record {
  within : l.at ≤ l.leaf.end;
  none : (place : ℕ) → HasBetween (IsHit l.forest.shapes.now l.leaf.hull.layer l.fn.query) l.forest.places.now l.leaf.first l.at place → ⊥;
}
