use Rattle.std.proofs.Common.{◌≤◌, List, length}
use Rattle.std.specs.Prelude.{All}
use Rattle.or_geom.specs.declared.shape.Shape.{Shape}
use Rattle.shape_bins.specs.Filled.{IsFilledBy}
use Rattle.shape_bins.proofs.filled.join_neighbours.Given as goal

abbrev pub invariant-loop-filled : goal.invariant-loop-filled
invariant-loop-filled l = record {
  few : length l.out.items ≤ l.filled-index;
  kept : (shapes : List Shape) → All (IsFilledBy shapes) l.boxes → All (IsFilledBy shapes) l.out.items;
}
