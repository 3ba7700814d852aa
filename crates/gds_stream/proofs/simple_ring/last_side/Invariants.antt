use Rattle.std.proofs.Common.{◌≡◌, length}
use Rattle.gds_library.specs.Values.{last_point}
use Rattle.gds_stream.proofs.simple_ring.last_side.Given as goal

abbrev pub invariant-loop-next : goal.invariant-loop-next
invariant-loop-next l = last_point l.last l.rest ≡ last_point l.first l.others

abbrev pub decreases-loop-next : goal.decreases-loop-next
decreases-loop-next l = length l.rest
