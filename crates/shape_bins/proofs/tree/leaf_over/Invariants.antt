use Rattle.std.proofs.Common.{◌≤◌}
use Rattle.shape_bins.specs.Nodes.{IsInHull}
use Rattle.shape_bins.specs.Places.{AllBetween, AllAtLeast}
use Rattle.shape_bins.proofs.tree.leaf_over.Given as goal

abbrev pub invariant-loop-at : goal.invariant-loop-at
invariant-loop-at l = record {
  within : l.at ≤ l.end;
  held : AllBetween (IsInHull l.shapes (record { layer = l.layer; rect = l.rect })) l.places l.first l.at;
  least : AllAtLeast l.least l.places l.first l.at;
}
