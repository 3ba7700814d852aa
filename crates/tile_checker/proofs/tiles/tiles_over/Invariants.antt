use Rattle.std.proofs.Common.{◌-ℤ◌}
use Rattle.std.specs.Prelude.{unsigned_abs}
use Rattle.tile_checker.proofs.TileLaws.{AreRowsTo}
use Rattle.tile_checker.proofs.tiles.tiles_over.Given as goal

abbrev pub invariant-loop-low : goal.invariant-loop-low
invariant-loop-low l = AreRowsTo l.fn.area l.low l.tiles.items

abbrev pub decreases-loop-low : goal.decreases-loop-low
decreases-loop-low l = unsigned_abs (l.fn.area.y2 -ℤ l.low)
