use Rattle.std.proofs.Common.{◌-ℤ◌, ◌≤ℤ◌}
use Rattle.std.specs.Prelude.{unsigned_abs}
use Rattle.shape_bins.specs.Layers.{rects_on}
use Rattle.tile_checker.specs.Strips.{AreStripsUpTo, IsWindow}
use Rattle.tile_checker.proofs.sides.right_strips.Given as goal

abbrev pub invariant-loop-window : goal.invariant-loop-window
invariant-loop-window l = record {
  chain : AreStripsUpTo (rects_on l.layer l.bins) l.fn.frame l.fn.frame.high.x l.strips.items l.window.right;
  after : l.fn.frame.high.x ≤ℤ l.window.right;
  window : IsWindow (rects_on l.layer l.bins) l.fn.frame l.fn.frame.high.x l.window.right l.window.bottom l.window.top;
}

abbrev pub decreases-loop-window : goal.decreases-loop-window
decreases-loop-window l = unsigned_abs (l.fn.hull.x2 -ℤ l.window.right)
