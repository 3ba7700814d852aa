use Rattle.std.proofs.Common.{◌-ℤ◌}
use Rattle.std.specs.Prelude.{unsigned_abs}
use Rattle.or_geom.proofs.CoverLaws.{IsRaised}
use Rattle.shape_bins.specs.Layers.{rects_on}
use Rattle.shape_bins.proofs.cover.box_covered.Given as goal

abbrev pub invariant-upward : goal.invariant-upward
invariant-upward l = IsRaised (rects_on l.layer l.bins) l.fn.area l.row

abbrev pub decreases-upward : goal.decreases-upward
decreases-upward l = unsigned_abs (l.fn.area.y2 -ℤ l.row.y)
