use Rattle.std.proofs.Common.{length}
use Rattle.gds_library.specs.ReadFault.{SkipsZeros}
use Rattle.gds_library.proofs.read.after_zeros.Given as goal

abbrev pub invariant-loop-first : goal.invariant-loop-first
invariant-loop-first l = SkipsZeros l.bytes l.tail

abbrev pub decreases-loop-first : goal.decreases-loop-first
decreases-loop-first l = length l.tail
