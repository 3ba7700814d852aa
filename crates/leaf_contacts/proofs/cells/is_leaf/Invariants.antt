use Rattle.std.proofs.Common.{◌≡◌}
use Rattle.or_geom.proofs.GatheringLaws.{IsAmongLeft}
use Rattle.leaf_nets.specs.declared.leaves.LooseLeaf.{LooseLeaf}
use Rattle.leaf_contacts.proofs.cells.is_leaf.Given as goal

abbrev pub invariant-loop-leaf : goal.invariant-loop-leaf
invariant-loop-leaf l = IsAmongLeft (λ (leaf : LooseLeaf). leaf.cell ≡ l.name) l.leaves l.leaf-index
