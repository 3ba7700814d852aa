use Rattle.std.proofs.Common.{◌≤◌, List, length}
use Rattle.std.specs.Prelude.{All}
use Rattle.or_geom.specs.declared.shape.Shape.{Shape}
use Rattle.shape_bins.specs.Filled.{AreFilledBoxes, IsFilledBy}
use Rattle.shape_bins.proofs.filled.add_many.Given as goal

abbrev pub invariant-loop-one : goal.invariant-loop-one
invariant-loop-one l = record {
  few : length l.boxes.items ≤ l.fn.most;
  filled : (shapes : List Shape) → All (IsFilledBy shapes) l.filled → AreFilledBoxes shapes l.fn.boxes.items → AreFilledBoxes shapes l.boxes.items;
}
