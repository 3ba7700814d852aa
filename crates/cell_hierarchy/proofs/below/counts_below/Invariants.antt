use Rattle.cell_hierarchy.proofs.CountedCellLaws.{AreCounted}
use Rattle.cell_hierarchy.proofs.below.counts_below.Given as goal

abbrev pub invariant-loop-place : goal.invariant-loop-place
invariant-loop-place l = AreCounted l._layers l.structs l.cells l.counts.items l.place
