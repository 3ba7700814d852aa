use Rattle.std.proofs.Common.{drop}
use Rattle.or_geom.proofs.GatheringLaws.{IsGathering}
use Rattle.channel_router.specs.Placed.{IsOfBottomPin}
use Rattle.channel_router.proofs.wires.add_bottom.Given as goal

abbrev pub invariant-loop-pin : goal.invariant-loop-pin
invariant-loop-pin l = IsGathering (IsOfBottomPin l.low l.wire l.track) l.pins (drop l.pin-index l.pins) l.fn.shapes.items l.shapes.items
