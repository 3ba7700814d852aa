use Rattle.cell_hierarchy.proofs.CountLaws.{AreOwnCountedTo}
use Rattle.cell_hierarchy.proofs.count.own_counts.Given as goal

abbrev pub invariant-loop-index : goal.invariant-loop-index
invariant-loop-index l = AreOwnCountedTo l.tree.layers.now l.tree.structs.now l.tree.cells.now l.index l.counts.items
