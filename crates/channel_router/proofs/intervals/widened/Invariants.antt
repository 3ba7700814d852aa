use Rattle.std.proofs.Common.{◌≡◌, List, ◌++◌, take, length}
use Rattle.channel_router.specs.declared.channel.ChannelPin.{ChannelPin}
use Rattle.channel_router.specs.Hull.{AreHulls}
use Rattle.channel_router.proofs.intervals.widened.Given as goal

abbrev pub invariant-loop-pin : goal.invariant-loop-pin
invariant-loop-pin l = record {
  sized : length l.intervals.items ≡ length l.fn.intervals.items;
  hulls : (before : List ChannelPin) → AreHulls before l.fn.intervals.items → AreHulls (before ++ take l.pin-index l.pins) l.intervals.items;
}
