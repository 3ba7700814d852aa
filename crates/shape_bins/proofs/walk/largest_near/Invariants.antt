use Rattle.std.proofs.Common.{◌-◌}
use Rattle.std.specs.Prelude.{IfSome}
use Rattle.shape_bins.specs.Hits.{IsHitOf}
use Rattle.shape_bins.proofs.walk.largest_near.Given as goal

abbrev pub invariant-loop-at : goal.invariant-loop-at
invariant-loop-at l = record {
  hit : IfSome l.found (IsHitOf l.forest.shapes.now l.layer l.fn.query);
}

abbrev pub decreases-loop-at : goal.decreases-loop-at
decreases-loop-at l = l.range.end - l.at
