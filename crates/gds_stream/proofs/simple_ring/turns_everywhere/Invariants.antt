use Rattle.std.proofs.Common.{length, ◌↔◌}
use Rattle.rectilinear.specs.Ring.{sides_on}
use Rattle.gds_library.proofs.TurnLaws.{Turning}
use Rattle.gds_stream.proofs.simple_ring.turns_everywhere.Given as goal

abbrev pub invariant-loop-next : goal.invariant-loop-next
invariant-loop-next l =
    Turning l.before (sides_on l.before.b l.rest l.first)
    ↔ Turning l.fn.last (sides_on l.fn.last.b l.others l.fn.last.b)

abbrev pub decreases-loop-next : goal.decreases-loop-next
decreases-loop-next l = length l.rest
