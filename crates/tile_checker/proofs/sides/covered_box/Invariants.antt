use Rattle.std.proofs.Common.{◌-ℤ◌, ◌+ℤ◌, ◌≤ℤ◌}
use Rattle.std.specs.Prelude.{unsigned_abs}
use Rattle.or_geom.specs.declared.shape.Point.{Point}
use Rattle.shape_bins.specs.Layers.{rects_on}
use Rattle.tile_checker.specs.Frame.{HasBoxAt}
use Rattle.tile_checker.specs.Strips.{AreRights, IsWindow}
use Rattle.tile_checker.proofs.SideLaws.{HasBoxTo}
use Rattle.tile_checker.proofs.sides.covered_box.Given as goal

abbrev pub invariant-leftward : goal.invariant-leftward
invariant-leftward l = record {
  rights : AreRights (rects_on l.layer l.bins) l.fn.frame l.kept (l.window.left +ℤ l.fn.frame.width);
  window : IsWindow (rects_on l.layer l.bins) l.fn.frame l.window.left l.fn.frame.high.x l.window.bottom l.window.top;
  from : l.fn.frame.low.x ≤ℤ l.window.left;
  to : l.window.left ≤ℤ l.fn.frame.high.x;
  slides : (corner : Point) → HasBoxAt (rects_on l.layer l.bins) l.fn.frame corner → HasBoxTo (rects_on l.layer l.bins) l.fn.frame l.window.left;
}

abbrev pub decreases-leftward : goal.decreases-leftward
decreases-leftward l = unsigned_abs (l.window.left -ℤ l.fn.frame.low.x)
