use Rattle.leaf_nets.proofs.KitLaws.{KitSoFar}
use Rattle.leaf_nets.proofs.leaves.kit_nets.Given as goal

abbrev pub invariant-loop-index : goal.invariant-loop-index
invariant-loop-index l = KitSoFar l.kit l.index l.leaves.items
