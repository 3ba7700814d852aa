use Rattle.std.proofs.Common.{◌≤◌, length}
use Rattle.std.specs.Prelude.{All}
use Rattle.shape_bins.specs.Filled.{IsFilledBy}
use Rattle.shape_bins.proofs.filled.columns_of.Given as goal

abbrev pub invariant-loop-shape : goal.invariant-loop-shape
invariant-loop-shape l = record {
  few : length l.out.items ≤ l.shape-index;
  filled : All (IsFilledBy l.shapes) l.out.items;
}
