use Rattle.std.proofs.Common.{drop}
use Rattle.or_geom.proofs.GatheringLaws.{IsGathering}
use Rattle.rail_bus.specs.Rails.{IsOfTap}
use Rattle.rail_bus.proofs.shapes.add_taps.Given as goal

abbrev pub invariant-loop-tap : goal.invariant-loop-tap
invariant-loop-tap l = IsGathering (IsOfTap l.xs l.wire) l.taps (drop l.tap-index l.taps) l.fn.shapes.items l.shapes.items
