use Rattle.std.proofs.Common.{map}
use Rattle.leaf_tables.specs.Alignment.{Face, plain_facing}
use Rattle.leaf_shapes.proofs.PlaceLaws.{EachBefore}
use Rattle.leaf_tables.proofs.align.first_facing.Given as goal

abbrev pub invariant-loop-index : goal.invariant-loop-index
invariant-loop-index l = EachBefore (Face l.leaves) (map plain_facing l.all) l.index
