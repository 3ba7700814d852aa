use Rattle.std.proofs.Common.{◌-◌, ◌≤◌, length}
use Rattle.shape_bins.specs.Leaves.{AreLeafNodes}
use Rattle.shape_bins.proofs.tree.leaves_over.Given as goal

abbrev pub invariant-loop-first : goal.invariant-loop-first
invariant-loop-first l = record {
  within : l.first ≤ length l.places;
  above : l.begin ≤ l.first;
  few : length l.leaves.items ≤ l.first;
  leaves : AreLeafNodes l.shapes l.places l.layer l.begin l.first l.leaves.items;
}

abbrev pub decreases-loop-first : goal.decreases-loop-first
decreases-loop-first l = length l.places - l.first
