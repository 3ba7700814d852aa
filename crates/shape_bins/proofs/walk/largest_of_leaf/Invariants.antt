use Rattle.std.proofs.Common.{◌≤◌}
use Rattle.std.specs.Prelude.{IfSome}
use Rattle.shape_bins.specs.Hits.{IsHitOf}
use Rattle.shape_bins.proofs.walk.largest_of_leaf.Given as goal

abbrev pub invariant-loop-at : goal.invariant-loop-at
invariant-loop-at l = record {
  within : l.at ≤ l.leaf.end;
  hit : IfSome l.fn.before (IsHitOf l.forest.shapes.now l.leaf.hull.layer l.fn.query) → IfSome l.found (IsHitOf l.forest.shapes.now l.leaf.hull.layer l.fn.query);
}
