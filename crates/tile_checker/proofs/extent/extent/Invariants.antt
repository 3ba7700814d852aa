use Rattle.tile_checker.proofs.TileLaws.{IsAreaTo}
use Rattle.tile_checker.proofs.extent.extent.Given as goal

abbrev pub invariant-loop-shape : goal.invariant-loop-shape
invariant-loop-shape l = IsAreaTo l.shapes l.shape-index l.area
