use Rattle.or_geom.specs.Adds.{Adds}
use Rattle.channel_router.specs.Placed.{IsTrunkBelow}
use Rattle.channel_router.proofs.wires.add_trunks.Given as goal

abbrev pub invariant-loop-net : goal.invariant-loop-net
invariant-loop-net l = Adds l.fn.shapes.items l.shapes.items (IsTrunkBelow l.low l.wire l.intervals l.track l.net)
