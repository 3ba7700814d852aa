use Rattle.std.proofs.Common.{◌≡◌, ◌-ℤ◌}
use Rattle.std.specs.Prelude.{unsigned_abs}
use Rattle.shape_bins.specs.Layers.{rects_on}
use Rattle.tile_checker.specs.Strips.{IsStripThrough}
use Rattle.tile_checker.proofs.strip.upward.Given as goal

abbrev pub invariant-loop-strip : goal.invariant-loop-strip
invariant-loop-strip l = record {
  along : IsStripThrough (rects_on l.layer l.bins) l.fn.hull l.fn.cell.x l.strip;
  from : l.strip.bottom ≡ l.fn.cell.y;
}

abbrev pub decreases-loop-strip : goal.decreases-loop-strip
decreases-loop-strip l = unsigned_abs (l.fn.hull.y2 -ℤ l.strip.top)
