use Rattle.std.proofs.Common.{length}
use Rattle.rectilinear.proofs.LoopLaws.{ArePairsBut}
use Rattle.rectilinear.proofs.cutting.add_pairs.Given as goal

abbrev pub invariant-loop-first : goal.invariant-loop-first
invariant-loop-first l = ArePairsBut l.ends l.rest l.fn.band.low l.fn.band.high l.fn.out.items l.out.items

abbrev pub decreases-loop-first : goal.decreases-loop-first
decreases-loop-first l = length l.rest
