use Rattle.std.proofs.Common.{List, length}
use Rattle.rectilinear.specs.declared.changes.Change.{Change}
use Rattle.rectilinear.proofs.SweepLaws.{Sweeps}
use Rattle.rectilinear.proofs.cutting.slabs.Given as goal

abbrev pub invariant-loop-change : goal.invariant-loop-change
invariant-loop-change l = (all : List Change) × Sweeps l.fn.corners all l.rest l.ends.items l.out.items

abbrev pub decreases-loop-change : goal.decreases-loop-change
decreases-loop-change l = length l.rest
