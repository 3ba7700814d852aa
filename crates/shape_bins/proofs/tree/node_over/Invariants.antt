use Rattle.shape_bins.proofs.TreeLaws.{HoldsFirst, IsLeastOfFirst}
use Rattle.shape_bins.proofs.tree.node_over.Given as goal

abbrev pub invariant-loop-leaf : goal.invariant-loop-leaf
invariant-loop-leaf l = record {
  holds : HoldsFirst l.leaves l.leaf-index l.rect;
  least : IsLeastOfFirst l.leaves l.leaf-index l.least;
}
