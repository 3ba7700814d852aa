use Rattle.std.proofs.Common.{◌≡◌, length}
use Rattle.gds_library.specs.Values.{last_point, is_same_point}
use Rattle.gds_library.specs.ReadElements.{is_closed}
use Rattle.gds_library.proofs.boundary.ends_where_it_begins.Given as goal

abbrev pub invariant-loop-next : goal.invariant-loop-next
invariant-loop-next l = is_same_point (last_point l.last l.rest) l.first ≡ is_closed l.points

abbrev pub decreases-loop-next : goal.decreases-loop-next
decreases-loop-next l = length l.rest
