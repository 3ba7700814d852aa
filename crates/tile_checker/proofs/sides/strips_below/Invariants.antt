use Rattle.std.proofs.Common.{length, ◌+ℤ◌}
use Rattle.shape_bins.specs.Layers.{rects_on}
use Rattle.tile_checker.specs.Strips.{AreRights}
use Rattle.tile_checker.proofs.sides.strips_below.Given as goal

abbrev pub invariant-loop-last : goal.invariant-loop-last
invariant-loop-last l = AreRights (rects_on l.fn._layer l.fn._bins) l.fn.frame l.kept (l.fn.x +ℤ l.fn.frame.width)

abbrev pub decreases-loop-last : goal.decreases-loop-last
decreases-loop-last l = length l.kept
