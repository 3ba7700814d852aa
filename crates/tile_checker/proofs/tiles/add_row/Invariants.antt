use Rattle.std.proofs.Common.{◌-ℤ◌}
use Rattle.std.specs.Prelude.{unsigned_abs}
use Rattle.tile_checker.proofs.TileLaws.{IsRowTo}
use Rattle.tile_checker.proofs.tiles.add_row.Given as goal

abbrev pub invariant-loop-left : goal.invariant-loop-left
invariant-loop-left l = IsRowTo l.fn.area l.fn.low l.fn.high l.left l.fn.tiles.items l.tiles.items

abbrev pub decreases-loop-left : goal.decreases-loop-left
decreases-loop-left l = unsigned_abs (l.fn.area.x2 -ℤ l.left)
