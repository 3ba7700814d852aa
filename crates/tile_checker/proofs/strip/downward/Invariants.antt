use Rattle.std.proofs.Common.{◌≡◌, ◌-ℤ◌, ◌≤ℤ◌}
use Rattle.std.specs.Prelude.{unsigned_abs}
use Rattle.shape_bins.specs.Layers.{rects_on}
use Rattle.tile_checker.specs.Strips.{IsStripThrough}
use Rattle.tile_checker.proofs.strip.downward.Given as goal

abbrev pub invariant-loop-strip : goal.invariant-loop-strip
invariant-loop-strip l = record {
  along : IsStripThrough (rects_on l.layer l.bins) l.fn.hull l.fn.x l.strip;
  top : l.strip.top ≡ l.fn.above.top;
  lower : l.strip.bottom ≤ℤ l.fn.above.bottom;
}

abbrev pub decreases-loop-strip : goal.decreases-loop-strip
decreases-loop-strip l = unsigned_abs (l.strip.bottom -ℤ l.fn.hull.y1)
