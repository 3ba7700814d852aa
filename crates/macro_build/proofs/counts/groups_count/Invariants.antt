use Rattle.std.proofs.Common.{length}
use Rattle.macro_build.proofs.CountLaws.{AreCounted}
use Rattle.macro_build.proofs.counts.groups_count.Given as goal

abbrev pub invariant-loop-bits : goal.invariant-loop-bits
invariant-loop-bits l = AreCounted l.groups l.count l.rest

abbrev pub decreases-loop-bits : goal.decreases-loop-bits
decreases-loop-bits l = length l.rest
