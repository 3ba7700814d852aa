use Rattle.leaf_tables.specs.Steps.{source_in}
use Rattle.leaf_tables.proofs.LeafLaws.{AreLeavesBefore}
use Rattle.leaf_tables.proofs.leaf.read_leaves.Given as goal

abbrev pub invariant-loop-index : goal.invariant-loop-index
invariant-loop-index l = AreLeavesBefore (source_in l.tech l.wire l.lib l.deck) l.leaves l.index
