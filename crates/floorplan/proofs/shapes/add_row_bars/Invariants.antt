use Rattle.or_geom.specs.Adds.{Adds}
use Rattle.floorplan.specs.Bars.{IsRowBar}
use Rattle.floorplan.proofs.shapes.add_row_bars.Given as goal

abbrev pub invariant-loop-row : goal.invariant-loop-row
invariant-loop-row l = Adds l.fn.shapes.items l.shapes.items (IsRowBar l.wire l.trunk l.from.x l.from.y l.height l.odd l.row)
