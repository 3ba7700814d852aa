use Rattle.std.proofs.Common.{◌-ℤ◌}
use Rattle.std.specs.Prelude.{unsigned_abs}
use Rattle.or_geom.proofs.CoverLaws.{IsBegun}
use Rattle.shape_bins.specs.Layers.{rects_on}
use Rattle.shape_bins.proofs.cover.covered_rows.Given as goal

abbrev pub invariant-along : goal.invariant-along
invariant-along l = IsBegun (rects_on l.layer l.bins) l.fn.area l.fn.row l.corner

abbrev pub decreases-along : goal.decreases-along
decreases-along l = unsigned_abs (l.fn.area.x2 -ℤ l.corner.x)
