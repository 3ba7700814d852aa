use Rattle.leaf_tables.specs.Alignment.{SameHeight}
use Rattle.leaf_shapes.proofs.PlaceLaws.{EachBefore}
use Rattle.leaf_tables.proofs.align.first_height.Given as goal

abbrev pub invariant-loop-index : goal.invariant-loop-index
invariant-loop-index l = EachBefore (SameHeight l.leaves) l.all l.index
