use Rattle.std.proofs.Common.{take}
use Rattle.rail_bus.specs.Highest.{AreHighestAbove}
use Rattle.rail_bus.proofs.highest.highest_taps.Given as goal

abbrev pub invariant-loop-tap : goal.invariant-loop-tap
invariant-loop-tap l = AreHighestAbove l.low l.rails (take l.tap-index l.taps) l.highest.items
