use Rattle.std.proofs.Common.{◌≡◌, ◌+◌, ◌<◌, length, cond}
use Rattle.gds_stream.specs.Turned as turn
use Rattle.gds_stream.proofs.turning.lowest_index.Given as goal

abbrev pub invariant-loop-corner : goal.invariant-loop-corner
invariant-loop-corner l = record {
  index : turn.lowest_index l.corners ≡ cond (turn.is_lowest l.lowest l.rest) l.index (l.next + turn.lowest_index l.rest);
  rest : l.next + length l.rest ≡ length l.corners;
  within : l.index < l.next;
}

abbrev pub decreases-loop-corner : goal.decreases-loop-corner
decreases-loop-corner l = length l.rest
