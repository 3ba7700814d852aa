use Rattle.or_geom.specs.Adds.{Adds}
use Rattle.rail_bus.specs.Highest.{IsRailBelow}
use Rattle.rail_bus.proofs.shapes.add_rails.Given as goal

abbrev pub invariant-loop-rail : goal.invariant-loop-rail
invariant-loop-rail l = Adds l.fn.shapes.items l.shapes.items (IsRailBelow l.low l.xs l.highest l.wire l.rail)
