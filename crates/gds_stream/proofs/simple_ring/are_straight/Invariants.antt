use Rattle.std.proofs.Common.{length, ◌↔◌}
use Rattle.rectilinear.specs.Simple.{AllStraight}
use Rattle.gds_library.specs.Values.{segments, segments_from}
use Rattle.gds_stream.proofs.simple_ring.are_straight.Given as goal

abbrev pub invariant-loop-next : goal.invariant-loop-next
invariant-loop-next l = AllStraight (segments_from l.from l.rest) ↔ AllStraight (segments l.run)

abbrev pub decreases-loop-next : goal.decreases-loop-next
decreases-loop-next l = length l.rest
