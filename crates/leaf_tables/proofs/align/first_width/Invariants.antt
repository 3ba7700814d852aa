use Rattle.leaf_tables.specs.Alignment.{SameWidth}
use Rattle.leaf_shapes.proofs.PlaceLaws.{EachBefore}
use Rattle.leaf_tables.proofs.align.first_width.Given as goal

abbrev pub invariant-loop-index : goal.invariant-loop-index
invariant-loop-index l = EachBefore (SameWidth l.leaves) l.all l.index
