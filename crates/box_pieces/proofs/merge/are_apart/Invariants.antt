use Rattle.std.proofs.Common.{length}
use Rattle.box_pieces.proofs.merge.are_apart.Given as goal

abbrev pub decreases-loop-first : goal.decreases-loop-first
decreases-loop-first l = length l.rest
